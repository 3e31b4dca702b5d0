-- The account of each partition over the lines of a session.
use Rattle.std.specs.Prelude.{ℕ, List, [], ◌∷◌, take, Option, Some, None, slice_get}
use Rattle.crash_law.specs.Commands.{Command}
use Rattle.crash_law.specs.Accounts.{Account, answered, refused, synced}
use Rattle.script_text.specs.declared.line.Line.{Line}
use Rattle.script_text.specs.declared.line.Line.TheVariants.{Put, Remove, Clear, Get, Sync}
use Rattle.script_text.specs.Lines.{partition_of}
use Rattle.script_text.specs.Replies.{changed_at, command_of_line}
use Rattle.restart_load.specs.declared.ended.Ended.{Ended}
use Rattle.restart_load.specs.declared.ended.Ended.TheVariants.{Whole, Sink, Disk, Memory, Load, Spent}

-- the account after a command that was answered, where there is one
abbrev pub account_after : Option Command → Account → Account
account_after None a = a
account_after (Some command) a = answered a command

-- the account of its partition after a line that was answered
abbrev pub account_after_line : Line → Account → Account
account_after_line (Sync p) a = synced a
account_after_line (Put p prefix key value) a = account_after (command_of_line (Put p prefix key value)) a
account_after_line (Remove p prefix key) a = account_after (command_of_line (Remove p prefix key)) a
account_after_line (Clear p prefix) a = account_after (command_of_line (Clear p prefix)) a
account_after_line (Get p prefix key) a = a

-- and after a line that the disk refused: a command may be kept or lost
abbrev pub account_after_loss : Option Command → Account → Account
account_after_loss None a = a
account_after_loss (Some command) a = refused a command

abbrev pub account_after_refused : Line → Account → Account
account_after_refused line a = account_after_loss (command_of_line line) a

-- the account of each partition after lines that were answered; a line changes that of its own alone
abbrev pub accounts_after_lines : List Line → (ℕ → Account) → ℕ → Account
accounts_after_lines [] accounts = accounts
accounts_after_lines (line ∷ lines) accounts =
    accounts_after_lines lines (changed_at accounts (partition_of line) (account_after_line line (accounts (partition_of line))))

-- and after a further line that the disk refused, where there is one
abbrev pub accounts_after_refused : Option Line → (ℕ → Account) → ℕ → Account
accounts_after_refused None accounts = accounts
accounts_after_refused (Some line) accounts = changed_at accounts (partition_of line) (account_after_refused line (accounts (partition_of line)))

-- the accounts of a session that ended so after so many answered lines
abbrev pub accounts_at : Ended → List Line → ℕ → (ℕ → Account) → ℕ → Account
accounts_at Disk lines count accounts = accounts_after_refused (slice_get lines count) (accounts_after_lines (take count lines) accounts)
accounts_at Whole lines count accounts = accounts_after_lines (take count lines) accounts
accounts_at Sink lines count accounts = accounts_after_lines (take count lines) accounts
accounts_at (Load refusal) lines count accounts = accounts_after_lines (take count lines) accounts
accounts_at Memory lines count accounts = accounts_after_lines (take count lines) accounts
accounts_at (Spent next) lines count accounts = accounts_after_lines (take count lines) accounts
