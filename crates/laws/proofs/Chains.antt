-- Is a test of every element the one that the library's chains make?
use mathlib.Core.Path.{◌≡◌, refl, ap}
use mathlib.Core.List.{List, [], ◌∷◌}
use mathlib.Core.Bool.{Bool, ◌&&◌}
use Rattle.std.specs.List.{list_all}
use Rattle.laws.specs.Lists.{every}

pub every_all : {A : Type 0} (p : A → Bool) (l : List A) → every p l ≡ list_all p l
every_all p [] = refl
every_all p (x ∷ l) = ap (λ (b : Bool). p x && b) (every_all p l)
