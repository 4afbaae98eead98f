-- What does a field's reader hand back, in the words of the meanings?
use Rattle.std.specs.Prelude.{List, ℕ, Result, Ok, Err}
use Rattle.meaning.specs.File.{Got, refused, got, Reader, ◌>>=◌, gives, part}
use Rattle.refusal.specs.declared.Refusal.{Refusal}
use Rattle.refusal.specs.Refusals.{number_of}
use Rattle.cursor.specs.declared.Cursor.{Cursor}

-- a value seen as `view` says, and the bytes behind it; or the refusal's number
abbrev pub got_of : {X Y : Type 0} → (X → Y) → Result (X × Cursor) Refusal → Got Y
got_of view (Ok p) = got (view p.0) p.1.rest.now
got_of view (Err e) = refused (number_of e)

-- one field of k bytes
abbrev pub field_next : {X : Type 0} → ℕ → (List ℕ → X) → Reader X
field_next k g = do
  b ← part k
  gives (g b)
