-- What the definitions of this crate mean. Each statement is proved under its name in proofs/.
use Rattle.std.specs.Prelude.{ℕ, ◌+◌, ◌-◌, ◌*◌, ◌/◌, ◌%◌, ◌^◌, ◌≤◌, ◌<◌, ◌≡◌, List, ◌∷◌, ◌++◌, map, length, take, drop, get_or, replicate}
use Rattle.spec_octets.specs.Lists.{All, flatten, select}
use Rattle.spec_octets.specs.Octets.{Octets}
use Rattle.spec_octets.specs.Reader.{value_from, in_octets}
use Rattle.spec_digest.specs.Words.{rotate_right}
use Rattle.spec_digest.specs.Padding.{zeros, padded, blocks, block_words}
use Rattle.spec_digest.specs.Family.{Member, state_words, next_word, schedule, digest}
use Rattle.spec_digest.specs.Members.{initial256, constants256, initial512, constants512, sha256, sha512}
use Rattle.spec_digest.specs.Roots.{primes, RootFraction, count_from, is_prime}
use Rattle.spec_digest.specs.Examples.{digest_examples, padding_edges}

-- FIPS 180-4 section 5.1: the message, a 1 bit, the least number of 0 bits after which the length field ends a block, and the length.
abbrev pub PaddingForm : Type 0
PaddingForm =
    (n : ℕ) (s : List ℕ) → 0 < n →
    (padded n s ≡ s ++ (128 ∷ (replicate (zeros n (length s)) 0 ++ in_octets (2 * n) (8 * length s))))
    × ((length s + 1 + zeros n (length s)) % (16 * n) ≡ 14 * n) × (zeros n (length s) < 16 * n)

-- The length field has the number of bits of the message, if that fits in two words.
abbrev pub PaddingLength : Type 0
PaddingLength =
    (n : ℕ) (s : List ℕ) → 8 * length s < 256 ^ (2 * n) →
    value_from 0 (drop (length s + 1 + zeros n (length s)) (padded n s)) ≡ 8 * length s

-- Each row of the table: the zeros of the padding, and the number of blocks.
abbrev pub PaddingEdges : Type 0
PaddingEdges =
    map (λ r. (r.0, r.1, zeros r.0 r.1, length (blocks r.0 (padded r.0 (replicate r.1 0))))) padding_edges ≡ padding_edges

-- The blocks of a padded message, in their order, are all of it, and each has 16 words.
abbrev pub BlocksJoin : Type 0
BlocksJoin =
    (n : ℕ) (s : List ℕ) → 0 < n →
    (flatten (blocks n (padded n s)) ≡ padded n s) × All (λ b. length b ≡ 16 * n) (blocks n (padded n s))

-- The words of a block, written in order with the high octet first, are the block.
abbrev pub WordsJoin : Type 0
WordsJoin =
    (n : ℕ) (b : List ℕ) → length b ≡ 16 * n → Octets b →
    (length (block_words n b) ≡ 16) × All (λ x. x < 256 ^ n) (block_words n b) × (flatten (map (in_octets n) (block_words n b)) ≡ b)

-- Rotating a word by n bits moves its last n bits to its front, and loses none.
abbrev pub RotationMovesBits : Type 0
RotationMovesBits = (w n x : ℕ) → n ≤ w → x < 2 ^ w → rotate_right w n x ≡ x % 2 ^ n * 2 ^ (w - n) + x / 2 ^ n

-- The message schedule: the words of the block, then each word by the recurrence of FIPS 180-4 sections 6.2.2 and 6.4.2, step 1.
abbrev pub ScheduleForm : Type 0
ScheduleForm =
    (m : Member) (block : List ℕ) → length block ≡ 16 → 16 ≤ length m.constants →
    (length (schedule m block) ≡ length m.constants) × (take 16 (schedule m block) ≡ block)
    × ((t : ℕ) → 16 ≤ t → t < length m.constants →
    get_or (schedule m block) t 0
    ≡ next_word m (get_or (schedule m block) (t - 16) 0) (get_or (schedule m block) (t - 15) 0) (get_or (schedule m block) (t - 7) 0)
    (get_or (schedule m block) (t - 2) 0))

-- The initial hash values are from the square roots of the first 8 primes, the constants from the cube roots of the first 64 and 80.
abbrev pub ConstantsFromPrimes : Type 0
ConstantsFromPrimes =
    (primes ≡ select is_prime (count_from 410 0)) × (length constants256 ≡ 64) × (length constants512 ≡ 80)
    × ((t : ℕ) → t < 8 → RootFraction 2 32 (get_or primes t 0) (get_or (state_words initial256) t 0))
    × ((t : ℕ) → t < 8 → RootFraction 2 64 (get_or primes t 0) (get_or (state_words initial512) t 0))
    × ((t : ℕ) → t < 64 → RootFraction 3 32 (get_or primes t 0) (get_or constants256 t 0))
    × ((t : ℕ) → t < 80 → RootFraction 3 64 (get_or primes t 0) (get_or constants512 t 0))

abbrev pub DigestLength : Type 0
DigestLength = (s : List ℕ) → (length (digest sha256 s) ≡ 32) × (length (digest sha512 s) ≡ 64)

-- Each message of the table has the digest that the table says.
abbrev pub DigestExamples : Type 0
DigestExamples = map (λ r. value_from 0 (digest r.0 r.1)) digest_examples ≡ map (λ r. r.2) digest_examples
