-- The restated definitions.
use mathlib.Core.Path.{refl}
use Rattle.spec_digest.specs.Words.{majority, plus, complement, choose}
use Rattle.spec_digest.specs.Family.{temporary1, temporary2, moved, round, absorbed, hash_value, digest}
use Rattle.spec_digest.specs.Pinned.{BitRows, RoundForm, DigestForm}

pub bit_rows : BitRows
unfolding majority plus complement choose
bit_rows = (refl, refl, refl, refl, refl, refl, refl)

pub round_form : RoundForm
unfolding temporary1 temporary2 moved round
round_form m s k x = (refl, refl, refl)

pub digest_form : DigestForm
unfolding absorbed hash_value digest
digest_form m s = refl
