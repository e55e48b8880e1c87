-- Equations that restate a definition, so that it can't change unnoticed. Each is proved under its name in proofs/.
use Rattle.std.specs.Prelude.{ℕ, ◌≡◌, List, map}
use Rattle.spec_octets.specs.Lists.{flatten}
use Rattle.spec_octets.specs.Reader.{in_octets}
use Rattle.spec_digest.specs.Words.{majority, plus, complement, choose}
use Rattle.spec_digest.specs.Padding.{padded, blocks, block_words}
use Rattle.spec_digest.specs.Family.{State, Member, state_words, width, big_sigma0, big_sigma1, temporary1, temporary2, round, compress_all, digest}

-- The bits of x select from y and z; the bits that two of three words have; the bits of x inverted; a sum that wraps.
abbrev pub BitRows : Type 0
BitRows =
    (choose 4 0b1100 0b1010 0b0110 ≡ 0b1010) × (choose 4 0b0011 0b1010 0b0110 ≡ 0b0110) × (majority 0b1100 0b1010 0b0110 ≡ 0b1110)
    × (majority 0b0001 0b0010 0b0100 ≡ 0) × (complement 4 0b1010 ≡ 0b0101) × (plus 4 9 6 ≡ 15) × (plus 4 9 7 ≡ 0)

-- FIPS 180-4 sections 6.2.2 and 6.4.2, step 3.
abbrev pub RoundForm : Type 0
RoundForm =
    (m : Member) (s : State) (k x : ℕ) →
    let sum = plus (width m) in
    (temporary1 m s k x ≡ sum (sum (sum (sum s.h (big_sigma1 m s.e)) (choose (width m) s.e s.f s.g)) k) x)
    × (temporary2 m s ≡ sum (big_sigma0 m s.a) (majority s.a s.b s.c))
    × (round m s k x
    ≡ record {
      a = sum (temporary1 m s k x) (temporary2 m s);
      b = s.a;
      c = s.b;
      d = s.c;
      e = sum s.d (temporary1 m s k x);
      f = s.e;
      g = s.f;
      h = s.g;
    })

-- The digest: the blocks of the padded message one after the other, from the initial hash value; then its eight words.
abbrev pub DigestForm : Type 0
DigestForm =
    (m : Member) (s : List ℕ) →
    let n = m.word_octets in
    digest m s ≡ flatten (map (in_octets n) (state_words (compress_all m m.initial (map (block_words n) (blocks n (padded n s))))))
