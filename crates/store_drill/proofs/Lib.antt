mod DumpLaws
mod FolderLaws
mod NumberLaws
mod SessionLaws
pub mod StartLaws
mod StepLaws
mod WriterListLaws
