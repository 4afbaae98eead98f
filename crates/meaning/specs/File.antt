-- Which problem do the bytes of a plan file say, or which fault is the first in file order?
use Rattle.std.specs.Prelude.{List, [], ◌∷◌, ◌++◌, map, Bool, cond, ℕ, zero, suc, ◌+◌, ◌*◌, ◌/◌, ◌%◌, ◌-◌, ◌^◌, eqb, ltb, leb, length, get_or, take, drop, ℤ, pos, negsuc}
use Rattle.laws.specs.Lists.{every, gather, same, parted}
use Rattle.meaning.specs.Problem.{Terms, among, sums, Said, Problem, Format, version1, size, right_head, right_set, right_rule}

-- ---- fields
-- "all numbers are little-endian"
abbrev pub little : List ℕ → ℕ
little [] = 0
little (b ∷ bs) = b + 256 * little bs

-- below half of what k bytes hold
abbrev pub below_half : ℕ → ℕ → Bool
below_half k u = ltb (2 * u) (256 ^ k)

-- "signed ones two's complement": the number of k bytes
abbrev pub signed : ℕ → List ℕ → ℤ
signed k b = let u = little b in cond (below_half k u) (pos u) (negsuc (256 ^ k - 1 - u))

-- ---- a reader: a refusal's number, or a value and the bytes behind it
pub data Got (A : Type 0) : Type 0 where
  refused : ℕ → Got A
  got : A → List ℕ → Got A

-- reads a value from the front of some bytes
abbrev pub Reader : Type 0 → Type 0
Reader A = List ℕ → Got A

-- goes on behind a value, and stops at a refusal
abbrev pub onward : {A B : Type 0} → Got A → (A → Reader B) → Got B
onward (refused k) f = refused k
onward (got a s) f = f a s

-- "each field is read at the place where the one before ended"
abbrev pub ◌>>=◌ : {A B : Type 0} → Reader A → (A → Reader B) → Reader B
◌>>=◌ r f s = onward (r s) f

-- the same, where the value is not wanted
abbrev pub ◌>>◌ : {A B : Type 0} → Reader A → Reader B → Reader B
◌>>◌ r f s = onward (r s) (λ a. f)

-- a value, with no byte read
abbrev pub gives : {A : Type 0} → A → Reader A
gives a s = got a s

-- a refusal, whatever follows
abbrev pub refuses : {A : Type 0} → ℕ → Reader A
refuses k s = refused k

-- a fault's number where the test fails
abbrev pub checked : ℕ → Bool → Reader (Unit {0})
checked k t s = cond t (got tt s) (refused k)

-- the next k bytes; 1 where the file ends before
abbrev pub part : ℕ → Reader (List ℕ)
part k s = cond (leb k (length s)) (got (take k s) (drop k s)) (refused 1)

-- n fields of k bytes each, all of them present
abbrev pub fields_next : {A : Type 0} → ℕ → ℕ → (List ℕ → A) → Reader (List A)
fields_next n k g = do
  b ← part (n * k)
  gives (map g (parted n k b))

-- 7, "bytes after the last rule"
abbrev pub ended : Reader (Unit {0})
ended s = checked 7 (eqb (length s) 0) s

-- ---- rules
-- the last fields of a body: lb, ub, and the lead-in
abbrev pub said_of : Format → Terms → List ℕ → Said
said_of f t b = record { terms = t; lb = signed 4 (take 4 b); ub = signed 4 (take 4 (drop 4 b)); lead = signed f.lead_bytes (drop 8 b) }

-- 1, among: "one byte, the value set S", "a 32-bit set of slots", "lb and ub"
abbrev pub among_body : Format → List ℕ → Said
among_body f b = let k = f.set_bytes in said_of f (among (little (take k b)) (little (take 4 (drop k b)))) (drop (k + 4) b)

-- 2, sum: "n coefficients of 16 bits", "lb and ub"
abbrev pub sum_body : Format → ℕ → List ℕ → Said
sum_body f n b = said_of f (sums (map (signed 2) (parted n 2 b))) (drop (n * 2) b)

-- "its body present, its fields": k bytes, then lb, ub and the lead-in
abbrev pub body_next : Format → ℕ → ℕ → (List ℕ → Said) → Reader Said
body_next f n k g = do
  b ← part (k + 8 + f.lead_bytes)
  checked 6 (right_rule f n (g b))
  gives (g b)

-- "the kind byte decides what follows"
abbrev pub kind_next : Format → ℕ → ℕ → Reader Said
kind_next f n k =
    cond (eqb k 1) (body_next f n (f.set_bytes + 4) (among_body f))
    (cond (eqb k 2) (body_next f n (n * 2) (sum_body f n)) (refuses 6))

-- "for each rule its kind byte present, its kind, its body present, its fields"
abbrev pub rules_next : Format → ℕ → ℕ → Reader (List Said)
rules_next f n zero = gives []
rules_next f n (suc m) = do
  k ← part 1
  r ← kind_next f n (little k)
  rs ← rules_next f n m
  gives (r ∷ rs)

-- ---- the whole file
-- "the letters RTP"
abbrev pub mark : List ℕ
mark = 82 ∷ 84 ∷ 80 ∷ []

-- "the version, 1"
abbrev pub format_next : ℕ → Reader Format
format_next v = cond (eqb v 1) (gives version1) (refuses 3)

-- "n bytes, one step set per slot", "n weights of 32 bits", "then m rules"
abbrev pub problem_next : Format → ℕ → ℕ → Reader Problem
problem_next f n m = do
  checked 4 (right_head n m)
  ss ← fields_next n f.set_bytes little
  checked 5 (every right_set ss)
  ws ← fields_next n 4 (signed 4)
  checked 5 (every (size f.weight) ws)
  rs ← rules_next f n m
  ended
  gives (record { sets = ss; weights = ws; rules = rs })

-- "the first fault in file order decides"
abbrev pub read_of : Reader Problem
read_of = do
  h ← part 7
  checked 2 (same (take 3 h) mark)
  f ← format_next (little (take 2 (drop 3 h)))
  problem_next f (get_or h 5 0) (get_or h 6 0)

-- ---- the bytes of a problem
-- k bytes, little-endian
abbrev pub bytes : ℕ → ℕ → List ℕ
bytes zero u = []
bytes (suc k) u = u % 256 ∷ bytes k (u / 256)

-- two's complement in k bytes
abbrev pub signed_bytes : ℕ → ℤ → List ℕ
signed_bytes k (pos u) = bytes k u
signed_bytes k (negsuc u) = bytes k (256 ^ k - 1 - u)

-- the kind, then S and the slots, or the coefficients
abbrev pub term_bytes : Format → Terms → List ℕ
term_bytes f (among s t) = 1 ∷ bytes f.set_bytes s ++ bytes 4 t
term_bytes f (sums c) = 2 ∷ gather (signed_bytes 2) c

-- a rule, lb, ub and the lead-in behind its terms
abbrev pub rule_bytes : Format → Said → List ℕ
rule_bytes f r = term_bytes f r.terms ++ signed_bytes 4 r.lb ++ signed_bytes 4 r.ub ++ signed_bytes f.lead_bytes r.lead

-- "the fields in 01's order"
abbrev pub bytes_of : Format → Problem → List ℕ
bytes_of f p =
    mark ++ bytes 2 f.version ++ (length p.sets ∷ length p.rules ∷ [])
    ++ gather (bytes f.set_bytes) p.sets ++ gather (signed_bytes 4) p.weights ++ gather (rule_bytes f) p.rules
