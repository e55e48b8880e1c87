-- The digests of the examples, by computing.
use mathlib.Core.Path.{refl}
use Rattle.spec_digest.specs.Words.{majority, plus, complement, rotate_right, choose, rotations, rotations_and_shift}
use Rattle.spec_digest.specs.Padding.{zeros, padding, padded, blocks, block_words}
use Rattle.spec_digest.specs.Family.{big_sigma0, big_sigma1, small_sigma0, small_sigma1, temporary1, temporary2, moved, round, next_word, schedule, added, compress, absorbed, hash_value, digest}
use Rattle.spec_digest.specs.Members.{initial256, constants256, initial512, constants512, sha256, sha512}
use Rattle.spec_digest.specs.Theorems.{PaddingEdges, DigestExamples}

pub digest_examples_lem : DigestExamples
unfolding majority plus complement rotate_right choose rotations rotations_and_shift zeros padding padded blocks block_words big_sigma0 big_sigma1 small_sigma0 small_sigma1 temporary1 temporary2 moved round next_word schedule added compress absorbed hash_value digest initial256 constants256 initial512 constants512 sha256 sha512
digest_examples_lem = refl

pub padding_edges_lem : PaddingEdges
unfolding zeros padding padded blocks
padding_edges_lem = refl
