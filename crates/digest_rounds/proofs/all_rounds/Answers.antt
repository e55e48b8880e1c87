-- `all_rounds` meets its contract. The loop's invariant: the rounds that are left give the same words.
use Rattle.std.proofs.Common.{◌∙◌, sym, inl, inr}
use Rattle.digest_rounds.proofs.RoundSteps.{no_constants, no_words}
use Rattle.digest_rounds.proofs.all_rounds.Goals as goal

pub returns : goal.returns
returns g c =
    sym (c.loop-k.invariant ∙ elim c.in-None.ensures.steps [ inl p ↦ no_constants _ _ _ _ _ p.1.0 | inr p ↦ no_words _ _ _ _ _ p.1.0 ])
