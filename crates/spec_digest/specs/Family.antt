-- The hash computation of FIPS 180-4 section 6, for any member of the family. SHA-256 (section 6.2) and SHA-512 (section 6.4) differ in
-- the width of a word, in the amounts of their rotations, and in their constants.
use Rattle.std.specs.Prelude.{ℕ, zero, suc, ◌-◌, ◌*◌, List, [], ◌∷◌, ◌++◌, map, length, take, get_or}
use Rattle.spec_octets.specs.Lists.{flatten}
use Rattle.spec_octets.specs.Reader.{in_octets}
use Rattle.spec_digest.specs.Words.{majority, plus, choose, rotations, rotations_and_shift}
use Rattle.spec_digest.specs.Padding.{padded, blocks, block_words}

-- Eight words: a hash value, or the working variables a to h.
pub record State : Type 0 where
  pub a : ℕ
  pub b : ℕ
  pub c : ℕ
  pub d : ℕ
  pub e : ℕ
  pub f : ℕ
  pub g : ℕ
  pub h : ℕ

abbrev pub state_words : State → List ℕ
state_words s = s.a ∷ s.b ∷ s.c ∷ s.d ∷ s.e ∷ s.f ∷ s.g ∷ s.h ∷ []

-- What a member of the family is given by.
pub record Member : Type 0 where
  -- The number of octets of a word.
  pub word_octets : ℕ
  -- The three amounts of Σ0 and of Σ1 (rotations), and of σ0 and of σ1 (two rotations and a shift).
  pub big0 : ℕ × ℕ × ℕ
  pub big1 : ℕ × ℕ × ℕ
  pub small0 : ℕ × ℕ × ℕ
  pub small1 : ℕ × ℕ × ℕ
  -- The initial hash value, and a constant for each round.
  pub initial : State
  pub constants : List ℕ

module _ (m : Member) where
  -- The number of bits of a word.
  abbrev pub width : ℕ
  width = 8 * m.word_octets

  unfoldable pub big_sigma0 : ℕ → ℕ
  big_sigma0 x = rotations width m.big0 x

  unfoldable pub big_sigma1 : ℕ → ℕ
  big_sigma1 x = rotations width m.big1 x

  unfoldable pub small_sigma0 : ℕ → ℕ
  small_sigma0 x = rotations_and_shift width m.small0 x

  unfoldable pub small_sigma1 : ℕ → ℕ
  small_sigma1 x = rotations_and_shift width m.small1 x

  -- T1 of a round, k its constant and x its word of the message schedule; and T2.
  unfoldable pub temporary1 : State → ℕ → ℕ → ℕ
  temporary1 s k x =
      plus width (plus width (plus width (plus width s.h (big_sigma1 s.e)) (choose width s.e s.f s.g)) k) x

  unfoldable pub temporary2 : State → ℕ
  temporary2 s = plus width (big_sigma0 s.a) (majority s.a s.b s.c)

  -- The working variables after a round with these T1 and T2.
  unfoldable pub moved : State → ℕ → ℕ → State
  moved s t1 t2 = record {
    a = plus width t1 t2;
    b = s.a;
    c = s.b;
    d = s.c;
    e = plus width s.d t1;
    f = s.e;
    g = s.f;
    h = s.g;
  }

  unfoldable pub round : State → ℕ → ℕ → State
  round s k x = moved s (temporary1 s k x) (temporary2 s)

  -- One round for each constant and word.
  abbrev pub rounds : State → List ℕ → List ℕ → State
  rounds s [] ws = s
  rounds s (k ∷ ks) [] = s
  rounds s (k ∷ ks) (x ∷ ws) = rounds (round s k x) ks ws

  -- A word of the message schedule, from the words 16, 15, 7 and 2 places before it.
  unfoldable pub next_word : ℕ → ℕ → ℕ → ℕ → ℕ
  next_word before16 before15 before7 before2 =
      plus width (plus width (plus width (small_sigma1 before2) before7) (small_sigma0 before15)) before16

  -- The word that follows ws, which are the first t words.
  abbrev pub word_after : List ℕ → ℕ → ℕ
  word_after ws t = next_word (get_or ws (t - 16) 0) (get_or ws (t - 15) 0) (get_or ws (t - 7) 0) (get_or ws (t - 2) 0)

  -- The words ws and `count` more.
  abbrev pub scheduled : ℕ → List ℕ → List ℕ
  scheduled zero ws = ws
  scheduled (suc count) ws = scheduled count (ws ++ (word_after ws (length ws) ∷ []))

  -- The message schedule of a block: its 16 words first, in all one word for each round.
  unfoldable pub schedule : List ℕ → List ℕ
  schedule block = scheduled (length m.constants - 16) block

  -- The first 16 words of ws, and as many more as give it its length again. At one word for each round this is the message schedule.
  unfoldable pub extended : List ℕ → List ℕ
  extended ws = scheduled (length ws - 16) (take 16 ws)

  -- Word by word.
  unfoldable pub added : State → State → State
  added s t = record {
    a = plus width s.a t.a;
    b = plus width s.b t.b;
    c = plus width s.c t.c;
    d = plus width s.d t.d;
    e = plus width s.e t.e;
    f = plus width s.f t.f;
    g = plus width s.g t.g;
    h = plus width s.h t.h;
  }

  -- The hash value after one more block.
  unfoldable pub compress : State → List ℕ → State
  compress s block = added s (rounds s m.constants (schedule block))

  abbrev pub compress_all : State → List (List ℕ) → State
  compress_all s [] = s
  compress_all s (block ∷ more) = compress_all (compress s block) more

  -- The hash value after the whole blocks of s.
  unfoldable pub absorbed : State → List ℕ → State
  absorbed start s = compress_all start (map (block_words m.word_octets) (blocks m.word_octets s))

  unfoldable pub hash_value : List ℕ → State
  hash_value s = absorbed m.initial (padded m.word_octets s)

  unfoldable pub digest : List ℕ → List ℕ
  digest s = flatten (map (in_octets m.word_octets) (state_words (hash_value s)))
