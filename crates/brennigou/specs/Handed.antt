-- Which slice is handed back?
use Rattle.std.specs.Prelude.{◌≡◌, List, [], ℕ}
use Rattle.std.specs.Borrow.{Bor}
use Rattle.meaning.specs.Calls.{Choice, empty_start, standing, new}

-- "that slice itself", or "the empty start of the standing one": no byte, at the place where the standing one begins
abbrev pub Handed : Choice → Bor (List ℕ) → Bor (List ℕ) → Bor (List ℕ) → Type 0
Handed empty_start a b r = (r.now ≡ []) × (r.ref_ptr ≡ a.ref_ptr)
Handed standing a b r = r ≡ a
Handed new a b r = r ≡ b
