-- What stands on a page, and what do pages drawn one after another list?
use Rattle.std.specs.Prelude.{List, [], ◌∷◌, ◌++◌, Bool, true, false, ◌&&◌, cond, ℕ, ltb, length, take, ℤ}
use Rattle.std.specs.Int.Signed.{le_z}
use Rattle.laws.specs.Lists.{keep, last_or, flat, padded}
use Rattle.meaning.specs.Plan.{Campaign, lawfuls, cost, after}
use Rattle.meaning.specs.Diagram.{Arcs}
use Rattle.meaning.specs.Bound.{is_path}

-- "within the ceiling", and after the start
abbrev pub wanted : Campaign → ℤ → List ℕ → List ℕ → Bool
wanted q c s p = le_z (cost q p) c && after s p

-- "the lawful plans within the ceiling after the start", in dictionary order
abbrev pub listed : Campaign → ℤ → List ℕ → List (List ℕ)
listed q c s = keep (wanted q c s) (lawfuls q)

-- what the walk finds along any arcs: of these "those that are paths of these arcs, and no others"
abbrev pub walked : Arcs → Campaign → ℤ → List ℕ → List (List ℕ)
walked a q c s = keep (is_path a) (listed q c s)

-- a page with room for k plans: "as many as fit whole", and "whether a further such plan exists after those written"
pub record Page : Type 0 where
  pub written : List (List ℕ)
  pub more : Bool

-- of a list of plans
abbrev pub page_of : ℕ → List (List ℕ) → Page
page_of k ps = record { written = take k ps; more = ltb k (length ps) }

-- of the lawful plans within the ceiling after the start
abbrev pub page : Campaign → ℤ → ℕ → List ℕ → Page
page q c k s = page_of k (listed q c s)

-- z bytes: the plans written, "the rest is zero"
abbrev pub page_bytes : ℕ → Page → List ℕ
page_bytes z g = padded z 0 (flat g.written)

-- pages with room for these numbers of plans, the first after s, "each next after the last plan of the page before, until one says there is no more"
abbrev pub drawn : List ℕ → Campaign → ℤ → List ℕ → List (List ℕ)
drawn [] q c s = []
drawn (k ∷ ks) q c s = let g = page q c k s in let rest = drawn ks q c (last_or s g.written) in g.written ++ cond g.more rest []

-- one of these pages "says there is no more"
abbrev pub ending : List ℕ → Campaign → ℤ → List ℕ → Bool
ending [] q c s = false
ending (k ∷ ks) q c s = let g = page q c k s in let rest = ending ks q c (last_or s g.written) in cond g.more rest true
