-- What is written of bytes and of numbers?
use Rattle.std.specs.Prelude.{List, [], ◌∷◌, ◌++◌, ℕ, ◌/◌, ◌%◌, codes, flat_map, false, ℤ}
use Rattle.std.specs.Fmt.{digits, signed_decimal}

-- two hexadecimal digits a byte
abbrev pub digit_pairs : List ℕ → List ℕ
digit_pairs bytes = flat_map (λ b. digits 16 false (b / 16) ++ digits 16 false (b % 16)) bytes

-- `-` where there is no byte
abbrev pub hex_text : List ℕ → List ℕ
hex_text [] = codes "-"
hex_text (b ∷ bytes) = digit_pairs (b ∷ bytes)

-- a comma before each number
abbrev pub with_commas : List ℤ → List ℕ
with_commas numbers = flat_map (λ z. codes "," ++ signed_decimal z) numbers

-- but the first
abbrev pub numbers_text : List ℤ → List ℕ
numbers_text [] = []
numbers_text (z ∷ numbers) = signed_decimal z ++ with_commas numbers
