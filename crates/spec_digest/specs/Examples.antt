-- Worked examples. The digests are those of the examples that NIST publishes for FIPS 180-4; the padding is worked out by hand.
use Rattle.std.specs.Prelude.{ℕ, List, [], ◌∷◌}
use Rattle.spec_octets.specs.Octets.{text}
use Rattle.spec_digest.specs.Family.{Member}
use Rattle.spec_digest.specs.Members.{sha256, sha512}

-- A message and its digest as a number: of 24 bits in one block, and of 448 or 896 bits in two.
abbrev pub digest_examples : List (Member × List ℕ × ℕ)
digest_examples =
    (sha256, text "abc", 0xba7816bf8f01cfea414140de5dae2223b00361a396177a9cb410ff61f20015ad)
    ∷ (
      sha256,
      text "abcdbcdecdefdefgefghfghighijhijkijkljklmklmnlmnomnopnopq",
      0x248d6a61d20638b8e5c026930c3e6039a33ce45964ff2167f6ecedd419db06c1,
    )
    ∷ (
      sha512,
      text "abc",
      0xddaf35a193617abacc417349ae20413112e6fa4e89a97ea20a9eeee64b55d39a2192992a274fc1a836ba3c23a3feebbd454d4423643ce80e2a9ac94fa54ca49f,
    )
    ∷ (
      sha512,
      text "abcdefghbcdefghicdefghijdefghijkefghijklfghijklmghijklmnhijklmnoijklmnopjklmnopqklmnopqrlmnopqrsmnopqrstnopqrstu",
      0x8e959b75dae313da8cf4f72814fc143f8f7779c6eb9f7fa17299aeadb6889018501d289e4900f7e4331b99dec4b5433ac7d329eeb6dd26545e96e55b874be909,
    )
    ∷ []

-- The octets of a word, the length of a message, its zeros, and its blocks. The edges are where one octet more needs one block more.
abbrev pub padding_edges : List (ℕ × ℕ × ℕ × ℕ)
padding_edges =
    (4, 0, 55, 1) ∷ (4, 1, 54, 1) ∷ (4, 55, 0, 1) ∷ (4, 56, 63, 2) ∷ (4, 63, 56, 2) ∷ (4, 64, 55, 2) ∷ (4, 119, 0, 2) ∷ (4, 120, 63, 3)
    ∷ (8, 0, 111, 1) ∷ (8, 1, 110, 1) ∷ (8, 111, 0, 1) ∷ (8, 112, 127, 2) ∷ (8, 127, 112, 2) ∷ (8, 128, 111, 2) ∷ (8, 239, 0, 2)
    ∷ (8, 240, 127, 3) ∷ []
