-- A message is padded to whole blocks, and cut into blocks and words (FIPS 180-4 sections 5.1 and 5.2). n is the number of octets of a
-- word: 4 for SHA-256, 8 for SHA-512. A block is 16 words.
use Rattle.std.specs.Prelude.{ℕ, zero, suc, ◌+◌, ◌-◌, ◌*◌, ◌/◌, ◌%◌, List, [], ◌∷◌, ◌++◌, map, length, take, drop, replicate}
use Rattle.spec_octets.specs.Reader.{value_from, in_octets}

-- Cuts pieces of the given size off the front of s, as many as `count`.
abbrev pub cut : ℕ → ℕ → List ℕ → List (List ℕ)
cut zero size s = []
cut (suc count) size s = take size s ∷ cut count size (drop size s)

module _ (n : ℕ) where
  -- The number of zero octets in the padding of a message of l octets: the least that fills the last block.
  unfoldable pub zeros : ℕ → ℕ
  zeros l = 16 * n - 1 - (l + 2 * n) % (16 * n)

  -- The padding of a message of l octets: a 1 bit, 0 bits, and the length of the message in bits as a number of two words.
  unfoldable pub padding : ℕ → List ℕ
  padding l = 128 ∷ (replicate (zeros l) 0 ++ in_octets (2 * n) (8 * l))

  unfoldable pub padded : List ℕ → List ℕ
  padded s = s ++ padding (length s)

  -- The whole blocks of s. A padded message has nothing after them.
  unfoldable pub blocks : List ℕ → List (List ℕ)
  blocks s = cut (length s / (16 * n)) (16 * n) s

  -- The 16 words of a block, each with the high octet first.
  unfoldable pub block_words : List ℕ → List ℕ
  block_words b = map (value_from 0) (cut 16 n b)
