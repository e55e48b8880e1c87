-- What `joined_in` is, for callers.
use Rattle.std.proofs.Common.{◌≡◌, ℕ, suc, List, ◌∷◌, length, get_or, sym, ap, ◌∙◌, arith}
use Rattle.std.proofs.Math.Seq.{take_all}
use borrow.Author.Tests.{eq-eqb}
use Rattle.spec_octets.specs.Reader.{value_from}
use Rattle.spec_digest.specs.Family.{Member}
use Rattle.spec_digest.proofs.LoadLaws.{listed, octets_from}
use Rattle.digest_words.specs.Joined.{joined_in}

module _ (m : Member) (octets : List ℕ) where
  -- as many octets as a word has: their value
  pub joined_word : length octets ≡ m.word_octets → joined_in m octets ≡ value_from 0 octets
  unfolding joined_in
  joined_word whole = rw (eq-eqb (length octets) m.word_octets whole)

  -- the same, octet by octet. `count` is one less than the octets of a word
  pub joined_listed :
      (count : ℕ) → length octets ≡ suc count → m.word_octets ≡ suc count →
      joined_in m octets ≡ value_from 0 (get_or octets 0 0 ∷ listed count 1 0 octets)
  joined_listed count long width =
      joined_word (long ∙ sym width) ∙ ap (value_from 0) (sym (take_all (suc count) octets (omega arith)) ∙ octets_from count 0 octets (omega arith))
