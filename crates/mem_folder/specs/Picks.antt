-- Which of its outcomes a crash has, by a pick: what is left under one name.
use Rattle.std.specs.Prelude.{◌≡◌, ℕ, ◌+◌, ◌-◌, ◌*◌, ◌/◌, ◌%◌, ◌^◌, ◌==◌, zero, suc, Bool, true, false, ◌||◌, List, length, take, Option, Some, None, if◌then◌else◌}
use Rattle.hr_base.specs.declared.limits.Pick.{Pick}
use Rattle.hr_base.specs.declared.limits.Pick.TheVariants.{Least, Most, Mix}
use Rattle.dir_files.specs.Files.{FileState}

-- the state after this one
abbrev pub next_state : ℕ → ℕ
next_state state = (state * 6364136223846793005 + 1442695040888963407) % 2 ^ 64

-- the state after so many draws
unfoldable pub draw_after : ℕ → ℕ → ℕ
draw_after seed zero = seed
draw_after seed (suc count) = next_state (draw_after seed count)

-- the draw at this place; only a mixture draws
abbrev pub draw_at : Pick → ℕ → ℕ
draw_at Least place = 0
draw_at Most place = 0
draw_at (Mix seed) place = draw_after seed (suc place) / 2 ^ 33

-- the same pick, with its first draw behind it
abbrev pub next_pick : Pick → Pick
next_pick Least = Least
next_pick Most = Most
next_pick (Mix seed) = Mix (next_state seed)

-- whether a file is there afterwards
abbrev pub stays : Pick → ℕ → Bool → Bool
stays Least draw named = named
stays Most draw named = true
stays (Mix seed) draw named = named || (draw % 2 == 1)

-- how many of its bytes are there, by its front and its length
abbrev pub left_length : Pick → ℕ → ℕ → ℕ → ℕ
left_length Least draw front len = front
left_length Most draw front len = len
left_length (Mix seed) draw front len = front + (draw / 2) % (len - front + 1)

-- what is left of a file whose name is lasting, or is not
abbrev pub left_of_file : Pick → ℕ → Bool → FileState → Option (List ℕ)
left_of_file pick draw named file =
    if stays pick draw named then Some (take (left_length pick draw file.front (length file.bytes)) file.bytes) else None

-- what is left under a name, of the held file, or of the removed one, whose name is not lasting
abbrev pub left_of : Pick → ℕ → Option FileState → Option FileState → Option (List ℕ)
left_of pick draw (Some file) _ = left_of_file pick draw file.named file
left_of pick draw None (Some file) = left_of_file pick draw false file
left_of pick draw None None = None
