-- `class_at` meets its contract: no arc, or a state that arrives.
use mathlib.Core.Path.{sym, ap, ◌∙◌}
use Rattle.state.specs.Pairs.{bucket_of}
use Rattle.classes.proofs.Children.{child_below, keys_within, child_bucket}
use Rattle.classes.proofs.Chains.class_at.Goals as goal

pub bucket-bucket-requires : goal.bucket-bucket-requires
bucket-bucket-requires c = keys_within c.requires.1 c.args.f c.requires.4

pub arrive-requires : goal.arrive-requires
arrive-requires c =
    let t = c.child_state-t in (
      c.requires.0,
      c.requires.2,
      record { below = child_below c.requires.1 c.args.f c.requires.4; room = c.requires.3; is = t.ensures },
      c.bucket-bucket.ensures.0 ∙ child_bucket c.requires.1 c.args.f c.requires.4 c.requires.0 ∙ ap bucket_of (sym t.ensures),
    )
