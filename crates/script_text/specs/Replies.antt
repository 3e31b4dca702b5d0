-- What is replied to each line, and the maps after it.
use Rattle.std.specs.Prelude.{ℕ, ◌==◌, List, [], ◌∷◌, ◌++◌, Option, Some, None, codes, decimal, unwrap_or, if◌then◌else◌}
use Rattle.std.specs.Option.{option_map}
use Rattle.std.specs.FinMap as map
use Rattle.hr_base.specs.Entries.{Entries, State, key_at, count_under}
use Rattle.crash_law.specs.Commands.{Command, maps_after}
use Rattle.crash_law.specs.Commands as command
use Rattle.script_text.specs.declared.line.Line.{Line}
use Rattle.script_text.specs.declared.line.Line.TheVariants.{Put, Remove, Clear, Get, Sync}
use Rattle.script_text.specs.declared.reply.Reply.{Reply}
use Rattle.script_text.specs.declared.reply.Reply.TheVariants.{Absent, Was, Cleared, Is, Synced}
use Rattle.script_text.specs.Lines.{partition_of}
use Rattle.script_text.specs.Texts.{text_of}

-- a reply as one line, with its end
abbrev pub reply_text : Reply → List ℕ
reply_text (Absent p) = decimal p.0 ++ codes " none\n"
reply_text (Was p value) = decimal p.0 ++ codes " was " ++ text_of value.now ++ codes "\n"
reply_text (Cleared p count) = decimal p.0 ++ codes " cleared " ++ decimal count ++ codes "\n"
reply_text (Is p value) = decimal p.0 ++ codes " is " ++ text_of value.now ++ codes "\n"
reply_text (Synced p) = decimal p.0 ++ codes " synced\n"

-- the reply to a put or a removal over the key's state before it
abbrev pub old_text : ℕ → State → List ℕ
old_text p None = decimal p ++ codes " none\n"
old_text p (Some content) = decimal p ++ codes " was " ++ text_of content.value ++ codes "\n"

-- the reply to a get over the key's state
abbrev pub get_text : ℕ → State → List ℕ
get_text p None = decimal p ++ codes " none\n"
get_text p (Some content) = decimal p ++ codes " is " ++ text_of content.value ++ codes "\n"

-- the reply to a line over the maps of its partition
abbrev pub text_after : Line → Entries → List ℕ
text_after (Put p prefix key value) m = old_text p.0 (map.get m (key_at prefix key))
text_after (Remove p prefix key) m = old_text p.0 (map.get m (key_at prefix key))
text_after (Clear p prefix) m = decimal p.0 ++ codes " cleared " ++ decimal (count_under prefix m) ++ codes "\n"
text_after (Get p prefix key) m = get_text p.0 (map.get m (key_at prefix key))
text_after (Sync p) m = decimal p.0 ++ codes " synced\n"

-- the command that a line gives, where it gives one
abbrev pub command_of_line : Line → Option Command
command_of_line (Put p prefix key value) = Some (command.Put prefix key value)
command_of_line (Remove p prefix key) = Some (command.Remove prefix key)
command_of_line (Clear p prefix) = Some (command.Clear prefix)
command_of_line (Get p prefix key) = None
command_of_line (Sync p) = None

-- the maps of its partition after a line
abbrev pub maps_after_line : Line → Entries → Entries
maps_after_line line m = unwrap_or (option_map (λ c. maps_after c m) (command_of_line line)) m

-- what each partition has, with another value at one of them
abbrev pub changed_at : {A : Type 0} → (ℕ → A) → ℕ → A → ℕ → A
changed_at before p value q = if q == p then value else before q

-- the maps of each partition after a line, which changes those of its own alone
abbrev pub maps_after_one : Line → (ℕ → Entries) → ℕ → Entries
maps_after_one line maps = changed_at maps (partition_of line) (maps_after_line line (maps (partition_of line)))

-- the maps of each partition after lines, the first of them first
abbrev pub maps_after_lines : List Line → (ℕ → Entries) → ℕ → Entries
maps_after_lines [] maps = maps
maps_after_lines (line ∷ lines) maps = maps_after_lines lines (maps_after_one line maps)

-- the replies to lines, in order, each over the maps of its partition then
abbrev pub replies : List Line → (ℕ → Entries) → List ℕ
replies [] maps = []
replies (line ∷ lines) maps = text_after line (maps (partition_of line)) ++ replies lines (maps_after_one line maps)
