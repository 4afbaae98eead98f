-- What do pages asked for one after another list, by their answers and the page buffers alone?
use Rattle.std.specs.Prelude.{List, [], ◌∷◌, Bool, not, cond, ℕ, eqb, ℤ}
use Rattle.laws.specs.Lists.{every, last_or, parted, gather}
use Rattle.meaning.specs.Calls.{Count, Lent, Done, page_call}

-- the plans on a page: from the buffer's beginning, as many as the answer counts, n bytes each
abbrev pub plans_on : ℕ → Done Count → List (List ℕ)
plans_on n d = parted d.answer.count n d.lent.plan

-- calls that are asked with a start and buffers, each with its own: the first after s, "each next after the last plan of the page before, until one says there is no more"
abbrev pub asked : (List ℕ → Lent → Done Count) → ℕ → List ℕ → List Lent → List (Done Count)
asked ask n s [] = []
asked ask n s (l ∷ ls) = let d = ask s l in d ∷ cond d.answer.more (asked ask n (last_or s (plans_on n d)) ls) []

-- "pages drawn one after another, the first from the beginning": of one file with n slots, one width, number of rounds and ceiling
abbrev pub pages_drawn : List ℕ → ℕ → ℕ → ℤ → ℕ → List Lent → List (Done Count)
pages_drawn f w r c n ls = asked (page_call f w r c) n [] ls

-- none of them is refused
abbrev pub all_served : List (Done Count) → Bool
all_served ds = every (λ d. eqb d.answer.number 0) ds

-- one of them "says there is no more"
abbrev pub no_more : List (Done Count) → Bool
no_more ds = not (every (λ d. d.answer.more) ds)

-- what they list, one page after the other
abbrev pub plans_drawn : ℕ → List (Done Count) → List (List ℕ)
plans_drawn n ds = gather (plans_on n) ds
