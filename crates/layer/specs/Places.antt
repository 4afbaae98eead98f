-- Where do the classes of a layer's children stand?
use Rattle.std.specs.Prelude.{ℕ, zero, suc}
use Rattle.meaning.specs.Diagram.{Builder, relaxed, restricted, place_byte}
use Rattle.layer.specs.declared.Builder as code
use Rattle.layer.specs.declared.Builder.TheVariants.{Relaxed, Restricted}

-- the builder that the code's value stands for
abbrev pub builder_of : code.Builder → Builder
builder_of Relaxed = relaxed
builder_of Restricted = restricted

-- the byte of a class becomes that of its place
abbrev pub placed : Builder → ℕ → ℕ → ℕ
placed b w zero = 0
placed b w (suc k) = place_byte b w k
