-- How long is an array of a problem by value? `search long` finds it where a function begins.
use mathlib.Core.Path.{◌≡◌, sym, ◌∙◌}
use mathlib.Core.List.{List, map}
use Prim.Native.Nat.{ℕ}
use lib.ListN.{length, length-map}

pub long : {A B : Type 0} (g : A → B) (l : List A) (n : ℕ) → length (map g l) ≡ n → length l ≡ n
long g l n e = sym (length-map l g) ∙ e
