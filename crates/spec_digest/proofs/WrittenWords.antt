-- Words as octets: the words of a block are the block, and a digest has eight words.
use Rattle.std.specs.Prelude.{Some}
use Prim.Native.Nat.{ℕ, ◌*◌, ◌^◌, ◌<◌}
use native.Mathlib.Omega.{arith}
use mathlib.Core.Path.{◌≡◌, refl, sym, ap₂, ◌∙◌}
use mathlib.Core.List.{List, [], ◌∷◌, ◌++◌, map, append-nil}
use lib.ListN.{length, length-append, length-map}
use Rattle.spec_octets.specs.Lists.{All, all_nil, all_cons, flatten}
use Rattle.spec_octets.specs.Octets.{Octets}
use Rattle.spec_octets.specs.Reader.{value_from, number, in_octets}
use Rattle.spec_octets.proofs.Numbers.{length_in_octets, numbers_high_octet_first}
use Rattle.spec_octets.proofs.ReaderLaws.{octets_some}
use Rattle.spec_digest.specs.Padding.{cut, block_words}
use Rattle.spec_digest.specs.Family.{state_words, hash_value, digest}
use Rattle.spec_digest.specs.Members.{sha256, sha512}
use Rattle.spec_digest.specs.Theorems.{WordsJoin, DigestLength}
use Rattle.spec_digest.proofs.CutLaws.{length_cut, flatten_cut, pieces_long, pieces_all}

module _ (n : ℕ) where
  read : (p : List ℕ) → length p ≡ n → number n p ≡ Some (value_from 0 p, [])
  unfolding number
  read p l = rw ((octets_some n p p []).1 (sym (append-nil p), l))

  -- n octets are the value that they have, written in n octets
  written : (p : List ℕ) → length p ≡ n → Octets p → (p ≡ in_octets n (value_from 0 p)) × (value_from 0 p < 256 ^ n)
  written p l o =
      let (e, small) = (numbers_high_octet_first n p o (value_from 0 p) []).0 (read p l) in
      (e ∙ append-nil (in_octets n (value_from 0 p)), small)

  values : (ps : List (List ℕ)) → All (λ p. length p ≡ n) ps → All (λ p. Octets p) ps → All (λ x. x < 256 ^ n) (map (value_from 0) ps)
  values [] all_nil all_nil = all_nil
  values (p ∷ ps) (all_cons l ls) (all_cons o os) = all_cons (written p l o).1 (values ps ls os)

  rewritten :
      (ps : List (List ℕ)) → All (λ p. length p ≡ n) ps → All (λ p. Octets p) ps → flatten (map (in_octets n) (map (value_from 0) ps)) ≡ flatten ps
  rewritten [] all_nil all_nil = refl
  rewritten (p ∷ ps) (all_cons l ls) (all_cons o os) =
      ap₂ (λ (a b : List ℕ). a ++ b) (sym (written p l o).0) (rewritten ps ls os)

  pub length_written : (ws : List ℕ) → length (flatten (map (in_octets n) ws)) ≡ length ws * n
  length_written [] = omega arith
  length_written (x ∷ ws) = rw (length-append, length_in_octets, length_written ws) (omega arith)

pub words_join : WordsJoin
unfolding block_words
words_join n b l o =
    let long = pieces_long n 16 b (omega arith) in
    let octets = pieces_all n 16 b o in (
      length-map (cut 16 n b) (value_from 0) ∙ length_cut n 16 b,
      values n (cut 16 n b) long octets,
      rewritten n (cut 16 n b) long octets ∙ flatten_cut n 16 b l,
    )

pub digest_length : DigestLength
unfolding digest sha256 sha512
digest_length s = (length_written 4 (state_words (hash_value sha256 s)), length_written 8 (state_words (hash_value sha512 s)))
