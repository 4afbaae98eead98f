-- How are the numbers of a layer reckoned arc by arc? Down numbers are brought to the place that each arc leads to, an up number is raised by each arc in turn.
use Rattle.std.specs.Prelude.{List, [], ◌∷◌, ℕ, zero, suc, get_or, set}
use Rattle.std.proofs.Math.Option.{none}
use Rattle.meaning.specs.Plan.{Campaign}
use Rattle.meaning.specs.Filter.{Numbers, meet, over, up_arc}

-- a number comes to the place that a byte leads to; 0 leads nowhere
abbrev pub brought : ℕ → Numbers → List Numbers → List Numbers
brought zero x l = l
brought (suc k) x l = set l k (meet (get_or l k none) x)

-- over the arcs of one parent with numbers d, its bytes from step v on
abbrev pub brought_node : Campaign → ℕ → Numbers → ℕ → List ℕ → List Numbers → List Numbers
brought_node q i d v [] l = l
brought_node q i d v (b ∷ bs) l = brought_node q i d (suc v) bs (brought b (over q i v d) l)

-- of every parent
abbrev pub brought_layer : Campaign → ℕ → List Numbers → List (List ℕ) → List Numbers → List Numbers
brought_layer q i [] bss l = l
brought_layer q i (d ∷ ds) [] l = l
brought_layer q i (d ∷ ds) (bs ∷ bss) l = brought_layer q i ds bss (brought_node q i d 0 bs l)

-- a node's up numbers x, met with those over each outgoing arc in turn, its bytes from step v on
abbrev pub raised : Campaign → ℕ → List Numbers → ℕ → List ℕ → Numbers → Numbers
raised q i us v [] x = x
raised q i us v (b ∷ bs) x = raised q i us (suc v) bs (meet x (up_arc q i us v b))
