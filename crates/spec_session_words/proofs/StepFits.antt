-- The numbers in the answer of each session call fit their fields.
use Rattle.std.specs.Prelude.{Option, None, Some}
use Prim.Native.Nat.{ℕ}
use native.Mathlib.Omega.{arith}
use mathlib.Core.List.{List, [], ◌∷◌}
use lib.Dec.{ltb}
use lib.ListN.{length}
use Rattle.spec_limits.specs.Limits.{max_request_octets}
use Rattle.spec_refusal.specs.declared.Refusal.{Refusal}
use Rattle.spec_refusal.specs.declared.Refusal.TheVariants.{RequestTooLong, SessionEnded}
use Rattle.spec_refusal.specs.Refusal.{place}
use Rattle.spec_octets.specs.Lists.{All, all_nil, all_cons}
use Rattle.spec_name.specs.Names.{Name}
use Rattle.spec_request.specs.Request.{requested_name}
use Rattle.spec_applicant.specs.Applicant.{Applicant}
use Rattle.spec_rule.specs.Calls.{first_refusal}
use Rattle.spec_answers.proofs.RefusalPlaces.{PlaceFits, cond_fits, issuer_fits, applicant_fits, book_fits}
use Rattle.spec_session.specs.declared.Session.{Session}
use Rattle.spec_session.specs.Sessions.{is_asking}
use Rattle.spec_session.specs.Steps.{ended_refusal, rest_refusal, one_name_refusal, open_checks, session_of, opened_or, opened, answered_or, answer_checks, answered, failed_or, failed, Answer, book, lookup_failed, step}
use Rattle.spec_session_words.proofs.SessionUnpacks.{FitsAnswer}
use Rattle.spec_session_words.proofs.States.{state_fits}

first_fits : (cs : List (Option Refusal)) → All PlaceFits cs → PlaceFits (first_refusal cs)
first_fits [] hs = tt
first_fits (None ∷ cs) (all_cons h hs) = first_fits cs hs
first_fits (Some r ∷ cs) (all_cons h hs) = h

rest_fits : (o : Option (Name × List ℕ)) → PlaceFits (rest_refusal o)
unfolding place
rest_fits None = omega arith
rest_fits (Some (n, [])) = tt
rest_fits (Some (n, x ∷ s)) = omega arith

one_name_fits : (s : List ℕ) → PlaceFits (one_name_refusal s)
unfolding one_name_refusal place
one_name_fits s = cond_fits (ltb max_request_octets (length s)) (Some RequestTooLong) _ (omega arith) (rest_fits (requested_name s))

ended_fits : (s : Session) → PlaceFits (ended_refusal s)
unfolding ended_refusal place
ended_fits s = cond_fits (is_asking s) None (Some SessionEnded) tt (omega arith)

pub open_fits : (request issuer : List ℕ) (who : Applicant) → FitsAnswer (opened request issuer who).answer
unfolding opened
open_fits request issuer who = go (first_refusal (open_checks request issuer who))
    (first_fits (open_checks request issuer who)
    (all_cons (one_name_fits request) (all_cons (issuer_fits issuer) (all_cons (applicant_fits who) all_nil))))
  where
    go : (c : Option Refusal) → PlaceFits c → FitsAnswer (opened_or c (session_of request issuer who)).answer
    go None h = state_fits (session_of request issuer who)
    go (Some r) h = h

pub step_fits : (s : Session) (a : Answer) → FitsAnswer (step s a).answer
unfolding answered failed
step_fits s (book b) = go (first_refusal (answer_checks s b)) (first_fits (answer_checks s b) (all_cons (ended_fits s) (all_cons (book_fits b) all_nil)))
  where
    go : (c : Option Refusal) → PlaceFits c → FitsAnswer (answered_or c s b).answer
    go None h = state_fits (answered_or None s b).session
    go (Some r) h = h
step_fits s lookup_failed = go (ended_refusal s) (ended_fits s)
  where
    go : (c : Option Refusal) → PlaceFits c → FitsAnswer (failed_or c s).answer
    go None h = state_fits (failed_or None s).session
    go (Some r) h = h
