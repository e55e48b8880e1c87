-- Words of the session calls, worked out by hand: the number, plus field a times 256, plus b times 4294967296, plus c times 281474976710656.
use Rattle.std.specs.Prelude.{ℕ, ◌≡◌, List, [], ◌∷◌, map, get_or, replicate}
use Rattle.spec_octets.specs.Octets.{text}
use Rattle.spec_name.specs.Names.{wire}
use Rattle.spec_applicant.specs.Applicant.{Applicant}
use Rattle.spec_applicant.specs.AdmissionEdges.{someone}
use Rattle.spec_rule.specs.Edges.{dotted, caa, chain, other, ca1}
use Rattle.spec_rule.specs.CallEdges.{www, both, conflicting, nobody}
use Rattle.spec_packed.specs.Packed.{number_in, field_a, field_b, field_c}
use Rattle.spec_session.specs.declared.Session.{Session}
use Rattle.spec_session.specs.Sessions.{text_of}
use Rattle.spec_session.specs.Steps.{Answer, book, lookup_failed}
use Rattle.spec_session.specs.SessionEdges.{kept_as, nothing, having, broken, whole_set}
use Rattle.spec_session_words.specs.SessionWords.{Worded, caa_session_open, caa_session_state}
use Rattle.spec_session_words.specs.SessionDoor.{zero_session, caa_session_step}

-- The words with a name in field a and b: the 17 octets of www.example.com from 0, the 13 of its parent from 4, the 5 of its top from 12; the 13 of
-- example.com from 2, behind an asterisk; a name of 255 octets from 0, and its last label with the closing zero, 3 octets from 252.
abbrev pub asks_x : ℕ
asks_x = 4392

abbrev pub asks_parent : ℕ
asks_parent = 17179872552

abbrev pub asks_top : ℕ
asks_top = 51539608872

abbrev pub asks_starred : ℕ
asks_starred = 8589937960

abbrev pub asks_longest : ℕ
asks_longest = 65320

abbrev pub asks_last : ℕ
asks_last = 1082331759400

-- The words of denials: 20 and 21 by record 1 with 1 label taken off, 22 by record 1 at X; and each by record 1,023 with 126 labels taken off.
abbrev pub critical : ℕ
critical = 281479271677972

abbrev pub ungranted : ℕ
ungranted = 281479271677973

abbrev pub unresolved : ℕ
unresolved = 4294967318

abbrev pub largest_20 : ℕ
largest_20 = 35470240817086484

abbrev pub largest_21 : ℕ
largest_21 = 35470240817086485

abbrev pub largest_22 : ℕ
largest_22 = 35470240817086486

-- Each word taken apart again: the word, its number, and the fields a, b and c.
abbrev pub taken_apart : ℕ → List ℕ
taken_apart x = x ∷ number_in x ∷ field_a x ∷ field_b x ∷ field_c x ∷ []

abbrev pub apart_edges : List (List ℕ)
apart_edges =
    (asks_x ∷ 40 ∷ 17 ∷ 0 ∷ 0 ∷ [])
    ∷ (asks_parent ∷ 40 ∷ 13 ∷ 4 ∷ 0 ∷ [])
    ∷ (asks_top ∷ 40 ∷ 5 ∷ 12 ∷ 0 ∷ [])
    ∷ (asks_starred ∷ 40 ∷ 13 ∷ 2 ∷ 0 ∷ [])
    ∷ (asks_longest ∷ 40 ∷ 255 ∷ 0 ∷ 0 ∷ [])
    ∷ (asks_last ∷ 40 ∷ 3 ∷ 252 ∷ 0 ∷ [])
    ∷ (critical ∷ 20 ∷ 0 ∷ 1 ∷ 1 ∷ [])
    ∷ (ungranted ∷ 21 ∷ 0 ∷ 1 ∷ 1 ∷ [])
    ∷ (unresolved ∷ 22 ∷ 0 ∷ 1 ∷ 0 ∷ [])
    ∷ (largest_20 ∷ 20 ∷ 0 ∷ 1023 ∷ 126 ∷ [])
    ∷ (largest_21 ∷ 21 ∷ 0 ∷ 1023 ∷ 126 ∷ [])
    ∷ (largest_22 ∷ 22 ∷ 0 ∷ 1023 ∷ 126 ∷ [])
    ∷ (258 ∷ 2 ∷ 1 ∷ 0 ∷ 0 ∷ [])
    ∷ (524 ∷ 12 ∷ 2 ∷ 0 ∷ 0 ∷ [])
    ∷ []

abbrev pub WordsTakenApart : Type 0
WordsTakenApart = map (λ e. taken_apart (get_or e 0 0)) apart_edges ≡ apart_edges

-- The words of an opening and of the answers after it.
abbrev pub words_by : Worded → List Answer → List ℕ
words_by t [] = t.word ∷ []
words_by t (a ∷ more) = t.word ∷ words_by (caa_session_step t.session a) more

-- What the calls return, and what they should.
pub record WordsEdge : Type 0 where
  pub told : List ℕ
  pub stated : List ℕ

abbrev pub words_for : Applicant → List ℕ → List ℕ → List Answer → List ℕ → WordsEdge
words_for who request issuer given as-stated = record { told = words_by (caa_session_open request issuer who) given; stated = as-stated }

abbrev pub words : List Answer → List ℕ → WordsEdge
words given as-stated = words_for someone www ca1 given as-stated

abbrev pub words_edges : List WordsEdge
words_edges =
    -- The name to be looked up: X, its parent, and so on, until none is left.
    words (nothing ∷ nothing ∷ nothing ∷ nothing ∷ []) (asks_x ∷ asks_parent ∷ asks_top ∷ 0 ∷ 14 ∷ [])
    ∷ words_for someone (wire (dotted "*.example.com")) ca1 [] (asks_starred ∷ [])
    -- Denials: 20, 21 and 22.
    ∷ words (nothing ∷ having (caa "example.com" 0 "issue" "ca1.example.net" ∷ caa "example.com" 128 "tbs" "x" ∷ []) ∷ []) (asks_x ∷ asks_parent ∷ critical ∷ [])
    ∷ words_for someone www (text "ca3") (nothing ∷ having (other "example.com" 1 1 ∷ whole_set) ∷ []) (asks_x ∷ asks_parent ∷ ungranted ∷ [])
    ∷ words (having (other "com" 1 1 ∷ chain "www.example.com" 97 8) ∷ []) (asks_x ∷ unresolved ∷ [])
    -- A refused book: 6 at record 0, 12 at record 2.
    ∷ words (broken ∷ book conflicting ∷ nothing ∷ []) (asks_x ∷ 6 ∷ 524 ∷ asks_parent ∷ [])
    -- A lookup that failed, and answers after it.
    ∷ words (lookup_failed ∷ nothing ∷ lookup_failed ∷ []) (asks_x ∷ 23 ∷ 14 ∷ 14 ∷ [])
    -- Refused openings: 1, 2 at 0, 2 at 1, 4 and 15; and answers after one.
    ∷ words_for someone (replicate 16385 0) ca1 [] (1 ∷ [])
    ∷ words_for someone [] ca1 [] (2 ∷ [])
    ∷ words_for someone both ca1 (nothing ∷ lookup_failed ∷ []) (258 ∷ 14 ∷ 14 ∷ [])
    ∷ words_for someone www [] [] (4 ∷ [])
    ∷ words_for nobody www ca1 [] (15 ∷ [])
    ∷ []

abbrev pub SessionWordsAgree : Type 0
SessionWordsAgree = map (λ e. e.told) words_edges ≡ map (λ e. e.stated) words_edges

-- The session of a name of 127 labels, with these numbers: phase, labels taken off, verdict, record.
abbrev pub longest : ℕ → ℕ → ℕ → ℕ → Session
longest phase up verdict rr =
    kept_as phase up verdict rr (text_of (wire (replicate 127 (text "a")))) (text_of ca1) (text_of someone.account) (text_of someone.method)

abbrev pub state_words : List (Session × ℕ)
state_words =
    -- Zeros.
    (zero_session, 41)
    -- The largest numbers that a session can tell.
    ∷ (longest 1 0 0 0, asks_longest)
    ∷ (longest 1 126 0 0, asks_last)
    ∷ (longest 2 126 20 1023, largest_20)
    ∷ (longest 2 126 21 1023, largest_21)
    ∷ (longest 2 126 22 1023, largest_22)
    -- Neither 0 nor 23 has numbers. One label more than there are, or one record, is no verdict.
    ∷ (longest 2 126 0 1023, 0)
    ∷ (longest 2 126 23 1023, 23)
    ∷ (longest 2 127 21 1023, 41)
    ∷ (longest 2 126 21 1024, 41)
    ∷ []

abbrev pub StateWordsAgree : Type 0
StateWordsAgree = map (λ e. caa_session_state e.0) state_words ≡ map (λ e. e.1) state_words
