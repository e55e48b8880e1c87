-- Opening a session: when it is refused, and what a session that is opened asks for.
use Rattle.std.proofs.lemmas.Option.{none-some, same_Some}
use Rattle.std.specs.Prelude.{Option, None, Some}
use Prim.Native.Nat.{ℕ, ◌≤◌, ◌<◌}
use native.Mathlib.Omega.{arith}
use mathlib.Core.Path.{◌≡◌, refl, ap, sym, ◌∙◌}
use mathlib.Core.Logic.Iff
use mathlib.Core.Logic.{◌↔◌, ◌≢◌, ◌⊎◌, inl, inr}
use mathlib.Core.Bool.{Bool, true, false, cond, not, false≢true, and-eq-true_iff}
use mathlib.Core.List.Memᴰ
use mathlib.Core.List.{List, [], ◌∷◌, ◌++◌, append-nil, cons≢nil}
use lib.Dec.{ltb}
use lib.ListN.{length}
use borrow.Author.Tests.{leb-true, ltb-true, ltb-false, le-ltb}
use Rattle.spec_limits.specs.Limits.{max_request_octets, max_name_octets, max_issuer_octets, max_account_octets}
use Rattle.spec_refusal.specs.declared.Refusal.{Refusal}
use Rattle.spec_refusal.specs.declared.Refusal.TheVariants.{RequestTooLong, BadName}
use Rattle.spec_refusal.specs.Refusal.{number, place}
use Rattle.spec_octets.specs.Lists.{all, is_empty}
use Rattle.spec_octets.specs.Octets.{Octets}
use Rattle.spec_octets.specs.Label.{is_host_label}
use Rattle.spec_octets.specs.Reader.{given}
use Rattle.spec_octets.proofs.ReaderLaws.{pure_some, bind_some, given_some}
use Rattle.spec_name.specs.Names.{Name, wire, name}
use Rattle.spec_request.specs.Request.{base, is_requestable, requested_name, GoodRequested}
use Rattle.spec_request.proofs.RequestedNames.{requested_name_is_its_labels}
use Rattle.spec_issuer.proofs.Dotted.{issuer_refusals}
use Rattle.spec_applicant.specs.Applicant.{Applicant}
use Rattle.spec_applicant.proofs.Texts.{applicant_refusals}
use Rattle.spec_rule.specs.declared.Judgement.TheVariants.{Refused}
use Rattle.spec_rule.specs.Calls.{first_refusal}
use Rattle.spec_rule.proofs.CheckOrder.{checked_at, Keeps, first_row, in_front, limited_rows}
use Rattle.spec_rule.proofs.RefusalLaws.{issuer_keeps, applicant_keeps}
use Rattle.spec_session.specs.declared.Session.{Session}
use Rattle.spec_session.specs.declared.SessionAnswer.TheVariants.{Judged}
use Rattle.spec_session.specs.Sessions.{max_text_octets, held, text_of, kept_name, kept_applicant, is_kept, asking, decided, is_asking, asked, standing}
use Rattle.spec_session.specs.Steps.{goes_to, rest_refusal, one_name_refusal, open_checks, session_of, ended_session, opened_or, opened, is_refusal}
use Rattle.spec_session.specs.Meaning.{OneName2, OneNameRow, OpenRow, GoodOpening}
use Rattle.spec_session.specs.Theorems.{OpenRefusals, RefusedOpening, OpeningIsGood}
use Rattle.spec_session.proofs.Texts.{texts_kept}
use Rattle.spec_session.proofs.Kept.{one_name_read, kept_exactly}
use Rattle.spec_session.proofs.StepLaws.{asks, asking_stands_nothing, state_no_refusal}

abbrev bad_name : ℕ → Refusal
bad_name k = BadName (record { 0 = k })

one_place : {j k : ℕ} → Some (bad_name j) ≡ Some (bad_name k) → k ≡ j
unfolding place
one_place {j} {k} e = sym (ap place (same_Some (bad_name j) (bad_name k) e))

module _ (s : List ℕ) (o : Octets s) where
  -- row 2, by what is read at the front
  second_row : (k : ℕ) → (rest_refusal (requested_name s) ≡ Some (bad_name k)) ↔ OneName2 s k
  second_row k = go (requested_name s) refl
    where
      at_front : (n : Name) (rest : List ℕ) → (requested_name s ≡ Some (n, rest)) ↔ ((s ≡ wire n ++ rest) × GoodRequested n)
      at_front n rest = requested_name_is_its_labels s o n rest

      go : (r : Option (Name × List ℕ)) → requested_name s ≡ r → (rest_refusal r ≡ Some (bad_name k)) ↔ OneName2 s k
      go None e = (λ h. inl (one_place h, λ n rest f g. none-some _ (sym e ∙ (at_front n rest).1 (f, g))), back)
        where
          back : OneName2 s k → rest_refusal None ≡ Some (bad_name k)
          back (inl (z, nothing)) = ap (λ i. Some (bad_name i)) (sym z)
          back (inr (z, (n, rest, f, g, more))) = absurd (none-some _ (sym e ∙ (at_front n rest).1 (f, g)))
      go (Some (n, [])) e = (λ h. absurd (none-some _ h), back)
        where
          back : OneName2 s k → rest_refusal (Some (n, [])) ≡ Some (bad_name k)
          back (inl (z, nothing)) = let (f, g) = (at_front n []).0 e in absurd (nothing n [] f g)
          back (inr (z, (m, rest, f, g, more))) = absurd (more (sym ((pure_some n m [] rest).0 (sym e ∙ (at_front m rest).1 (f, g))).1))
      go (Some (n, x ∷ rest)) e = (λ h. let (f, g) = (at_front n (x ∷ rest)).0 e in inr (one_place h, (n, x ∷ rest, f, g, cons≢nil)), back)
        where
          back : OneName2 s k → rest_refusal (Some (n, x ∷ rest)) ≡ Some (bad_name k)
          back (inl (z, nothing)) = let (f, g) = (at_front n (x ∷ rest)).0 e in absurd (nothing n (x ∷ rest) f g)
          back (inr h) = ap (λ i. Some (bad_name i)) (sym h.0)

  only_2 : (c : Option (Name × List ℕ)) (r : Refusal) → rest_refusal c ≡ Some r → (k : ℕ) × (r ≡ bad_name k)
  only_2 None r e = (0, sym (same_Some _ _ e))
  only_2 (Some (n, [])) r e = absurd (none-some r e)
  only_2 (Some (n, x ∷ rest)) r e = (1, sym (same_Some _ _ e))

  abbrev Later : Refusal → Type 0
  Later r = (k : ℕ) × (r ≡ bad_name k) × OneName2 s k

  not_row_1 : {k : ℕ} → bad_name k ≢ RequestTooLong
  unfolding number
  not_row_1 e = let z : ◌≡◌ {A = ℕ} 2 1 = ap number e in absurd (omega arith)

  one_name_keeps : Keeps (one_name_refusal s ∷ []) (OneNameRow s) (1 ∷ 2 ∷ [])
  unfolding number one_name_refusal checked_at
  one_name_keeps = limited_rows
      (over (ltb max_request_octets (length s)) refl)
      (faults (ltb max_request_octets (length s)))
      fits
      (λ r (k, e, h). Memᴰ.head (ap number e))
      refl
      refl
    where
      over :
          (t : Bool) → ltb max_request_octets (length s) ≡ t →
          (cond t (Some RequestTooLong) (rest_refusal (requested_name s)) ≡ Some RequestTooLong) ↔ (max_request_octets < length s)
      over true e = (λ h. ltb-true _ _ e, λ h. refl)
      over false e = (
        λ h. let (k, f) = only_2 (requested_name s) RequestTooLong h in absurd (not_row_1 (sym f)),
        λ h. absurd (omega (arith, ltb-false max_request_octets (length s) e)),
      )

      faults :
          (t : Bool) (r : Refusal) → cond t (Some RequestTooLong) (rest_refusal (requested_name s)) ≡ Some r → (r ≡ RequestTooLong) ⊎ Later r
      faults true r e = inl (sym (same_Some _ _ e))
      faults false r e = let (k, f) = only_2 (requested_name s) r e in inr (k, f, (second_row k).0 (e ∙ ap Some f))

      fits : (r : Refusal) → Later r → length s ≤ max_request_octets → cond (ltb max_request_octets (length s)) (Some RequestTooLong) (rest_refusal (requested_name s)) ≡ Some r
      fits r (k, e, h) few = rw (le-ltb max_request_octets (length s) few, e) ((second_row k).1 h)

pub open_keeps :
    (request issuer : List ℕ) (who : Applicant) → Octets request →
    Keeps (open_checks request issuer who) (OpenRow request issuer who) (1 ∷ 2 ∷ 4 ∷ 15 ∷ [])
unfolding checked_at
open_keeps request issuer who o = in_front (one_name_keeps request o) (in_front (issuer_keeps issuer) (applicant_keeps who) refl) refl

-- an opening is refused by a check, as no state is a refusal
open_refused : (c : Option Refusal) (t : Session) (r : Refusal) → ((opened_or c t).answer ≡ Judged (Refused r)) ↔ (c ≡ Some r)
open_refused None t r = (λ e. absurd (false≢true (sym (state_no_refusal t) ∙ ap is_refusal e)), λ e. absurd (none-some r e))
open_refused (Some q) t r = (λ e. cc, λ e. cc)

pub open_refusals : OpenRefusals
unfolding opened
open_refusals request issuer who o r = Iff.trans (open_refused _ _ r) (first_row (open_keeps request issuer who o) r)

pub refused_opening : RefusedOpening
unfolding opened ended_session asked standing is_asking asking decided
refused_opening request issuer who r e = (rw ((open_refused (first_refusal (open_checks request issuer who)) (session_of request issuer who) r).0 e), refl, refl)

-- the limits of the texts that are kept
names_fit : max_name_octets ≤ max_text_octets
unfolding max_name_octets max_text_octets
names_fit = leb-true 255 256 refl

issuers_fit : max_issuer_octets ≤ max_text_octets
unfolding max_issuer_octets max_text_octets
issuers_fit = leb-true 253 256 refl

accounts_fit : max_account_octets ≤ max_text_octets
unfolding max_account_octets max_text_octets
accounts_fit = leb-true 255 256 refl

pub names_within : max_name_octets ≤ max_request_octets
unfolding max_name_octets max_request_octets
names_within = leb-true 255 16384 refl

-- a name that is read has a label to ask for
labels_left : (s : List ℕ) (n : Name) (rest : List ℕ) → requested_name s ≡ Some (n, rest) → 0 < length (base n)
unfolding requested_name is_requestable
labels_left s n rest e =
    let (m, mid, f, h) = (bind_some name (λ m. given (is_requestable m) m) s n rest).0 e in
    let (t, same, end) = (given_some (is_requestable m) m n mid rest).0 h in
    let (full, hosts) = (and-eq-true_iff (not (is_empty (base m))) (all is_host_label (base m))).0 t in
    go (base n) (rw same at full)
  where
    go : (x : Name) → not (is_empty x) ≡ true → 0 < length x
    go [] h = absurd (false≢true h)
    go (l ∷ x) h = omega arith

module _ {request issuer : List ℕ} {who : Applicant} {n : Name} (g : GoodOpening request issuer who n) where
  pub short : length request ≤ max_name_octets
  short = rw g.one_name g.valid.0.1

  name_held : held (text_of request) ≡ request
  name_held = ((texts_kept request).1 (omega (arith, short, names_fit))).0

  issuer_held : held (text_of issuer) ≡ issuer
  issuer_held = ((texts_kept issuer).1 (omega (arith, g.well_formed.1, issuers_fit))).0

  account_held : held (text_of who.account) ≡ who.account
  account_held = ((texts_kept who.account).1 (omega (arith, g.applicant.0.1, accounts_fit))).0

  method_held : held (text_of who.method) ≡ who.method
  method_held = ((texts_kept who.method).1 (omega (arith, g.applicant.1.0.1, accounts_fit))).0

  abbrev start : Session
  start = session_of request issuer who

  pub start_name : held start.name ≡ request
  unfolding session_of
  start_name = name_held

  pub start_issuer : held start.issuer ≡ issuer
  unfolding session_of
  start_issuer = issuer_held

  pub start_applicant : kept_applicant start ≡ who
  unfolding session_of kept_applicant
  start_applicant = rw (account_held, method_held)

  pub start_kept : kept_name start ≡ Some n
  unfolding kept_name
  start_kept = rw start_name ((one_name_read request g.are_octets n).1 (g.one_name, g.valid))

  front_read : requested_name request ≡ Some (n, [])
  front_read = (requested_name_is_its_labels request g.are_octets n []).1 (g.one_name ∙ sym (append-nil (wire n)), g.valid)

  some_label : 0 < length (base n)
  some_label = labels_left request n [] front_read

  pub start_below : start.up < length (base n)
  unfolding session_of
  start_below = some_label

  pub start_keeps : is_kept start ≡ true
  start_keeps = (kept_exactly start (rw start_name g.are_octets)).1 (
    n,
    start_name ∙ g.one_name,
    g.valid,
    start_below,
    rw start_issuer g.well_formed,
    rw start_applicant g.applicant,
  )

  pub start_asks : is_asking start ≡ true
  unfolding is_asking session_of asking
  start_asks = rw start_keeps refl

  -- no check refuses
  pub opens : opened request issuer who ≡ goes_to start
  unfolding opened one_name_refusal
  opens = rw (
    le-ltb max_request_octets (length request) (omega (arith, short, names_within)),
    front_read,
    (issuer_refusals issuer).1.1 g.well_formed,
    (applicant_refusals who).1.1 g.applicant,
  ) refl

pub opening_is_good : OpeningIsGood
unfolding session_of
opening_is_good request issuer who n g = rw (opens g) (
  asks (session_of request issuer who) n (start_asks g) (start_kept g),
  asking_stands_nothing (session_of request issuer who) refl,
  refl,
  start_name g ∙ g.one_name,
)
