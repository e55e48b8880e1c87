-- Sessions, worked out by hand: what the opening and each answer after it are answered with; and what kept sessions say of themselves.
use Rattle.std.specs.Prelude.{ℕ, ◌≡◌, List, [], ◌∷◌, ◌++◌, map, replicate, take, drop, Some}
use Prim.Native.Char.{code}
use Rattle.spec_refusal.specs.declared.Refusal.{Refusal}
use Rattle.spec_refusal.specs.declared.Refusal.TheVariants.{RequestTooLong, BadName, BadIssuer, BookTooLong, BadRecord, AliasConflict, SessionEnded, BadAccountOrMethod}
use Rattle.spec_octets.specs.Octets.{text}
use Rattle.spec_name.specs.Names.{wire}
use Rattle.spec_request.specs.RequestEdges.{names}
use Rattle.spec_applicant.specs.Applicant.{Applicant}
use Rattle.spec_applicant.specs.ApplicantEdges.{with_account}
use Rattle.spec_applicant.specs.AdmissionEdges.{someone}
use Rattle.spec_record.specs.Records.{Record}
use Rattle.spec_rule.specs.declared.Judgement.TheVariants.{Permitted, UnknownCritical, NotGranted, TooManyAliases, Refused}
use Rattle.spec_rule.specs.Verdicts.{denial}
use Rattle.spec_rule.specs.Edges.{dotted, caa, cname, chain, other, ca1, ca2}
use Rattle.spec_rule.specs.CallEdges.{book_of, www, both, limited, conflicting, nobody}
use Rattle.spec_session.specs.declared.Text.{Text}
use Rattle.spec_session.specs.declared.Session.{Session}
use Rattle.spec_session.specs.declared.SessionAnswer.{SessionAnswer}
use Rattle.spec_session.specs.declared.SessionAnswer.TheVariants.{Asks, Judged, LookupFailed, NoVerdict}
use Rattle.spec_session.specs.declared.Stepped.{Stepped}
use Rattle.spec_session.specs.Sessions.{held, text_of, asked, state}
use Rattle.spec_session.specs.Steps.{ended_session, opened, Answer, book, lookup_failed, step}

-- What a step and the answers after it are answered with.
abbrev pub told_by : Stepped → List Answer → List SessionAnswer
told_by t [] = t.answer ∷ []
told_by t (a ∷ more) = t.answer ∷ told_by (step t.session a) more

-- What the definitions say, and what the requirements state.
pub record SessionEdge : Type 0 where
  pub told : List SessionAnswer
  pub stated : List SessionAnswer

abbrev pub run_for : Applicant → List ℕ → List ℕ → List Answer → List SessionAnswer → SessionEdge
run_for who request issuer given as-stated = record { told = told_by (opened request issuer who) given; stated = as-stated }

-- For www.example.com and ca1; and for its wildcard, with capital letters.
abbrev pub run : List Answer → List SessionAnswer → SessionEdge
run given as-stated = run_for someone www ca1 given as-stated

abbrev pub starred : List ℕ
starred = wire (dotted "*.WwW.Example.com")

abbrev pub star_run : List Answer → List SessionAnswer → SessionEdge
star_run given as-stated = run_for someone starred ca1 given as-stated

-- Answers: no record at all; these records; a record that is cut off.
abbrev pub nothing : Answer
nothing = book []

abbrev pub having : List Record → Answer
having rs = book (book_of rs)

abbrev pub broken : Answer
broken = book (64 ∷ [])

-- www.example.com takes 17 octets: 4 for www, 8 for example, 4 for com, and the closing zero.
abbrev pub asks_x : SessionAnswer
asks_x = Asks 0 17

abbrev pub asks_parent : SessionAnswer
asks_parent = Asks 4 13

abbrev pub asks_top : SessionAnswer
asks_top = Asks 12 5

abbrev pub refused : Refusal → SessionAnswer
refused r = Judged (Refused r)

abbrev pub session_ended : SessionAnswer
session_ended = refused SessionEnded

abbrev pub bad_name : ℕ → SessionAnswer
bad_name k = refused (BadName (record { 0 = k }))

abbrev pub permitted : SessionAnswer
permitted = Judged Permitted

abbrev pub not_granted : ℕ → ℕ → SessionAnswer
not_granted r u = Judged (NotGranted (denial 0 r u))

abbrev pub whole_set : List Record
whole_set =
    caa "example.com" 0 "issue" "CA1.example.net"
    ∷ caa "example.com" 0 "issue" "ca2.example.org; account=230123"
    ∷ caa "example.com" 0 "issue" "ca1.example.net"
    ∷ []

abbrev pub run_edges : List SessionEdge
run_edges =
    -- Nobody answers yet. Nothing is found anywhere: permitted after as many answers as X has labels. An answer after that is refused.
    run [] (asks_x ∷ [])
    ∷ run (nothing ∷ nothing ∷ nothing ∷ nothing ∷ []) (asks_x ∷ asks_parent ∷ asks_top ∷ permitted ∷ session_ended ∷ [])
    -- The whole case, asked name by name: by record 0 of the second answer, for ca1 and for another. Records of other types count in the number.
    ∷ run (nothing ∷ having whole_set ∷ []) (asks_x ∷ asks_parent ∷ permitted ∷ [])
    ∷ run_for someone www (text "ca3") (nothing ∷ having whole_set ∷ []) (asks_x ∷ asks_parent ∷ not_granted 0 1 ∷ [])
    ∷ run_for someone www (text "ca3") (nothing ∷ having (other "example.com" 1 1 ∷ whole_set) ∷ []) (asks_x ∷ asks_parent ∷ not_granted 1 1 ∷ [])
    -- The owner in other letters. The set at X, at its parent and at the top.
    ∷ run (having (caa "WWW.example.COM" 0 "issue" ";" ∷ []) ∷ []) (asks_x ∷ not_granted 0 0 ∷ [])
    ∷ run (nothing ∷ having (caa "example.com" 0 "issue" ";" ∷ []) ∷ []) (asks_x ∷ asks_parent ∷ not_granted 0 1 ∷ [])
    ∷ run (nothing ∷ nothing ∷ having (caa "com" 0 "issue" ";" ∷ []) ∷ []) (asks_x ∷ asks_parent ∷ asks_top ∷ not_granted 0 2 ∷ [])
    -- Only records of the name asked for count: not its parent's, not its child's, not those of a name asked for before.
    ∷ run (having (caa "example.com" 0 "issue" ";" ∷ []) ∷ []) (asks_x ∷ asks_parent ∷ [])
    ∷ run (nothing ∷ having (caa "www.example.com" 0 "issue" ";" ∷ []) ∷ []) (asks_x ∷ asks_parent ∷ asks_top ∷ [])
    ∷ run (nothing ∷ having (caa "badexample.com" 0 "issue" ";" ∷ caa "com" 0 "issue" ";" ∷ []) ∷ []) (asks_x ∷ asks_parent ∷ asks_top ∷ [])
    -- A set of only iodef decides. An unknown critical record, behind one that governs.
    ∷ run (having (caa "www.example.com" 0 "iodef" "mailto:a@example.com" ∷ []) ∷ nothing ∷ []) (asks_x ∷ permitted ∷ session_ended ∷ [])
    ∷ run (nothing ∷ having (caa "example.com" 0 "issue" "ca1.example.net" ∷ caa "example.com" 128 "tbs" "x" ∷ []) ∷ [])
    (asks_x ∷ asks_parent ∷ Judged (UnknownCritical (denial 0 1 1)) ∷ [])
    -- For the wildcard X is asked for, without the asterisk. Its set decides by issuewild.
    ∷ star_run (nothing ∷ nothing ∷ nothing ∷ []) (Asks 2 17 ∷ Asks 6 13 ∷ Asks 14 5 ∷ permitted ∷ [])
    ∷ star_run (having (caa "www.example.com" 0 "issue" "ca1.example.net" ∷ caa "www.example.com" 0 "issuewild" "ca2.example.org" ∷ []) ∷ [])
    (Asks 2 17 ∷ not_granted 1 0 ∷ [])
    ∷ run (having (caa "www.example.com" 0 "issue" "ca1.example.net" ∷ caa "www.example.com" 0 "issuewild" "ca2.example.org" ∷ []) ∷ [])
    (asks_x ∷ permitted ∷ [])
    ∷ star_run (having (caa "*.www.example.com" 0 "issue" ";" ∷ []) ∷ []) (Asks 2 17 ∷ Asks 6 13 ∷ [])
    -- Aliases are followed in the answer: to a set, to nothing, past the eighth. Labels are counted at the name that they start from.
    ∷ run (having (cname "www.example.com" "a.example.org" ∷ caa "a.example.org" 0 "issue" ";" ∷ []) ∷ []) (asks_x ∷ not_granted 1 0 ∷ [])
    ∷ run (having (cname "www.example.com" "a.example.org" ∷ caa "example.org" 0 "issue" ";" ∷ []) ∷ []) (asks_x ∷ asks_parent ∷ [])
    ∷ run (nothing ∷ having (cname "example.com" "example.com" ∷ []) ∷ []) (asks_x ∷ asks_parent ∷ Judged (TooManyAliases (denial 0 0 1)) ∷ [])
    ∷ run (having (other "com" 1 1 ∷ chain "www.example.com" 97 8) ∷ []) (asks_x ∷ Judged (TooManyAliases (denial 0 1 0)) ∷ [])
    ∷ run (having (chain "www.example.com" 97 7) ∷ []) (asks_x ∷ asks_parent ∷ [])
    -- The account and the method of the session count.
    ∷ run (nothing ∷ book limited ∷ []) (asks_x ∷ asks_parent ∷ permitted ∷ [])
    ∷ run_for (with_account (text "https://a/2")) www ca2 (nothing ∷ book limited ∷ []) (asks_x ∷ asks_parent ∷ permitted ∷ [])
    ∷ run_for someone www ca2 (nothing ∷ book limited ∷ []) (asks_x ∷ asks_parent ∷ not_granted 0 1 ∷ [])
    -- A refused book leaves the session alone: the same name is asked for again. Refusal 12 too.
    ∷ run (broken ∷ broken ∷ nothing ∷ broken ∷ []) (asks_x ∷ refused (BadRecord (record { 0 = 0 })) ∷ refused (BadRecord (record { 0 = 0 })) ∷ asks_parent ∷ refused (BadRecord (record { 0 = 0 })) ∷ [])
    ∷ run (book conflicting ∷ nothing ∷ []) (asks_x ∷ refused (AliasConflict (record { 0 = 2 })) ∷ asks_parent ∷ [])
    ∷ run (book (replicate 49153 0) ∷ nothing ∷ []) (asks_x ∷ refused BookTooLong ∷ asks_parent ∷ [])
    -- A lookup that failed ends the session. After that, and after a verdict, any answer is refused: a book, a bad book, a failure.
    ∷ run (lookup_failed ∷ nothing ∷ broken ∷ lookup_failed ∷ []) (asks_x ∷ LookupFailed ∷ session_ended ∷ session_ended ∷ session_ended ∷ [])
    ∷ run (nothing ∷ lookup_failed ∷ having whole_set ∷ []) (asks_x ∷ asks_parent ∷ LookupFailed ∷ session_ended ∷ [])
    ∷ run (having (caa "www.example.com" 0 "issue" ";" ∷ []) ∷ nothing ∷ broken ∷ lookup_failed ∷ []) (asks_x ∷ not_granted 0 0 ∷ session_ended ∷ session_ended ∷ session_ended ∷ [])
    -- No name at the front: 2 at 0. Anything behind one name, a valid name too: 2 at 1. Any number of names is no 3.
    ∷ run_for someone [] ca1 (nothing ∷ []) (bad_name 0 ∷ session_ended ∷ [])
    ∷ run_for someone (0 ∷ []) ca1 [] (bad_name 0 ∷ [])
    ∷ run_for someone (1 ∷ 42 ∷ 0 ∷ []) ca1 [] (bad_name 0 ∷ [])
    ∷ run_for someone (2 ∷ 45 ∷ 97 ∷ 0 ∷ []) ca1 [] (bad_name 0 ∷ [])
    ∷ run_for someone (take 16 www) ca1 [] (bad_name 0 ∷ [])
    ∷ run_for someone both ca1 (broken ∷ lookup_failed ∷ []) (bad_name 1 ∷ session_ended ∷ session_ended ∷ [])
    ∷ run_for someone (www ++ (0 ∷ [])) ca1 [] (bad_name 1 ∷ [])
    ∷ run_for someone (names 251) ca1 [] (bad_name 1 ∷ [])
    ∷ run_for someone (replicate 16384 0) ca1 [] (bad_name 0 ∷ [])
    ∷ run_for someone (replicate 16385 0) ca1 [] (refused RequestTooLong ∷ [])
    -- The order of checks: name, issuer domain name, account and method. Where one breaks its rule, so do all that are checked after it.
    ∷ run_for nobody [] [] [] (bad_name 0 ∷ [])
    ∷ run_for nobody both [] [] (bad_name 1 ∷ [])
    ∷ run_for nobody www [] [] (refused BadIssuer ∷ [])
    ∷ run_for nobody www ca1 (nothing ∷ []) (refused BadAccountOrMethod ∷ session_ended ∷ [])
    -- The longest name, issuer domain name and account are kept whole.
    ∷ run_for (with_account (replicate 255 (code "a"))) (wire (replicate 127 (text "a"))) ca1 [] (Asks 0 255 ∷ [])
    ∷ []

abbrev pub RunsAgree : Type 0
RunsAgree = map (λ e. e.told) run_edges ≡ map (λ e. e.stated) run_edges

-- A session by its numbers and texts.
abbrev pub kept_as : ℕ → ℕ → ℕ → ℕ → Text → Text → Text → Text → Session
kept_as phase up verdict rr name issuer account method =
    record { phase = phase; up = up; verdict = verdict; rr = rr; name = name; issuer = issuer; account = account; method = method }

-- The session of www.example.com, ca1, https://a/1 and dns-01, with these numbers: phase, labels taken off, verdict, record.
abbrev pub numbers : ℕ → ℕ → ℕ → ℕ → Session
numbers phase up verdict rr =
    kept_as phase up verdict rr (text_of www) (text_of ca1) (text_of someone.account) (text_of someone.method)

-- The same with another text in one place, while it asks (1), and where 21 stands by record 3 (2).
abbrev pub with_name : ℕ → Text → Session
with_name phase t = kept_as phase 0 21 3 t (text_of ca1) (text_of someone.account) (text_of someone.method)

abbrev pub with_issuer : ℕ → Text → Session
with_issuer phase t = kept_as phase 0 21 3 (text_of www) t (text_of someone.account) (text_of someone.method)

abbrev pub with_account_text : ℕ → Text → Session
with_account_text phase t = kept_as phase 0 21 3 (text_of www) (text_of ca1) t (text_of someone.method)

abbrev pub with_method_text : ℕ → Text → Session
with_method_text phase t = kept_as phase 0 21 3 (text_of www) (text_of ca1) (text_of someone.account) t

-- A text that is said to have n octets.
abbrev pub of_length : ℕ → List ℕ → Text
of_length n s = record { length = n; octets = (text_of s).octets }

abbrev pub state_edges : List (Session × SessionAnswer)
state_edges =
    -- Zeros are no verdict 0.
    (ended_session, NoVerdict)
    -- The labels taken off: 0 to 2 of three.
    ∷ (numbers 1 0 0 0, asks_x)
    ∷ (numbers 1 2 0 0, asks_top)
    ∷ (numbers 1 3 0 0, NoVerdict)
    ∷ (numbers 2 2 21 3, not_granted 3 2)
    ∷ (numbers 2 3 21 3, NoVerdict)
    -- The phases are 1 and 2.
    ∷ (numbers 0 0 21 3, NoVerdict)
    ∷ (numbers 3 0 21 3, NoVerdict)
    -- While a name is asked for, a kept verdict means nothing.
    ∷ (numbers 1 1 21 3, asks_parent)
    -- The verdicts are 0 and 20 to 23. Neither 0 nor 23 has numbers.
    ∷ (numbers 2 1 0 7, permitted)
    ∷ (numbers 2 1 1 7, NoVerdict)
    ∷ (numbers 2 1 19 7, NoVerdict)
    ∷ (numbers 2 1 20 7, Judged (UnknownCritical (denial 0 7 1)))
    ∷ (numbers 2 1 21 7, not_granted 7 1)
    ∷ (numbers 2 1 22 7, Judged (TooManyAliases (denial 0 7 1)))
    ∷ (numbers 2 1 23 7, LookupFailed)
    ∷ (numbers 2 1 24 7, NoVerdict)
    -- The record numbers are below 1,024. Without a record, any number does.
    ∷ (numbers 2 1 20 1023, Judged (UnknownCritical (denial 0 1023 1)))
    ∷ (numbers 2 1 20 1024, NoVerdict)
    ∷ (numbers 2 1 21 1023, not_granted 1023 1)
    ∷ (numbers 2 1 21 1024, NoVerdict)
    ∷ (numbers 2 1 22 1023, Judged (TooManyAliases (denial 0 1023 1)))
    ∷ (numbers 2 1 22 1024, NoVerdict)
    ∷ (numbers 2 1 0 1024, permitted)
    ∷ (numbers 2 1 23 1024, LookupFailed)
    -- The kept name: no octets, one missing, one more, beyond the room. A name that may not be requested; two names.
    ∷ (with_name 1 (of_length 0 www), NoVerdict)
    ∷ (with_name 1 (of_length 16 www), NoVerdict)
    ∷ (with_name 1 (of_length 17 www), asks_x)
    ∷ (with_name 1 (of_length 18 www), NoVerdict)
    ∷ (with_name 1 (of_length 257 www), NoVerdict)
    ∷ (with_name 2 (of_length 18 www), NoVerdict)
    ∷ (with_name 2 (of_length 17 www), not_granted 3 0)
    ∷ (with_name 1 (text_of (3 ∷ 97 ∷ 95 ∷ 98 ∷ 0 ∷ [])), NoVerdict)
    ∷ (with_name 2 (text_of (1 ∷ 42 ∷ 0 ∷ [])), NoVerdict)
    ∷ (with_name 1 (text_of (names 2)), NoVerdict)
    -- The issuer domain name: no octets, all that is kept, octets behind it, beyond the room.
    ∷ (with_issuer 1 (of_length 0 ca1), NoVerdict)
    ∷ (with_issuer 1 (of_length 15 ca1), asks_x)
    ∷ (with_issuer 1 (of_length 16 ca1), NoVerdict)
    ∷ (with_issuer 1 (of_length 257 ca1), NoVerdict)
    ∷ (with_issuer 2 (of_length 0 ca1), NoVerdict)
    ∷ (with_issuer 2 (text_of (replicate 63 (code "a"))), not_granted 3 0)
    ∷ (with_issuer 2 (text_of (replicate 64 (code "a"))), NoVerdict)
    -- The account: 0, 255, 256 and 257 octets. The method: the same, and a comma.
    ∷ (with_account_text 1 (of_length 0 (text "a")), NoVerdict)
    ∷ (with_account_text 1 (of_length 255 (replicate 256 (code "a"))), asks_x)
    ∷ (with_account_text 1 (of_length 256 (replicate 256 (code "a"))), NoVerdict)
    ∷ (with_account_text 1 (of_length 257 (replicate 256 (code "a"))), NoVerdict)
    ∷ (with_account_text 2 (of_length 256 (replicate 256 (code "a"))), NoVerdict)
    ∷ (with_account_text 1 (text_of (text "a,b")), asks_x)
    ∷ (with_method_text 1 (of_length 0 (text "m")), NoVerdict)
    ∷ (with_method_text 1 (of_length 255 (replicate 256 (code "m"))), asks_x)
    ∷ (with_method_text 1 (of_length 256 (replicate 256 (code "m"))), NoVerdict)
    ∷ (with_method_text 1 (of_length 257 (replicate 256 (code "m"))), NoVerdict)
    ∷ (with_method_text 2 (text_of (text "a,b")), NoVerdict)
    ∷ []

abbrev pub StatesAgree : Type 0
StatesAgree = map (λ e. state e.0) state_edges ≡ map (λ e. e.1) state_edges

-- The octets asked for have the letters of the request, and not its asterisk.
abbrev pub AskedAsGiven : Type 0
AskedAsGiven =
    (take 17 (drop 2 (held (opened starred ca1 someone).session.name)) ≡ wire (dotted "WwW.Example.com"))
    × (asked (opened starred ca1 someone).session ≡ Some (dotted "WwW.Example.com"))
