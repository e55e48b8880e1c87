-- What a session says of itself, by what is in memory.
use Rattle.std.proofs.lemmas.Option.{none-some}
use Rattle.std.specs.Prelude.{Option, None, Some}
use Prim.Native.Nat.{ℕ, ◌+◌, ◌-◌, ◌<◌}
use native.Mathlib.Omega.{arith}
use mathlib.Core.Path.{◌≡◌, refl, ap, sym, ◌∙◌}
use mathlib.Core.Bool.{Bool, true, false, cond, ◌&&◌, and-eq-true_iff}
use mathlib.Core.List.{List, [], ◌++◌, append-nil}
use lib.Dec.{eqb}
use lib.ListN.{length, drop, length-append}
use borrow.Author.Tests.{eqb-true}
use Rattle.spec_limits.specs.Limits.{max_names, max_name_octets}
use Rattle.spec_name.specs.Names.{Name, wire, GoodName}
use Rattle.spec_request.specs.Request.{base, requested_name}
use Rattle.spec_rule.specs.declared.Judgement.TheVariants.{Permitted, UnknownCritical, NotGranted, TooManyAliases, Refused}
use Rattle.spec_answers.proofs.NumberBounds.{name_read}
use Rattle.spec_session.specs.declared.Session.{Session}
use Rattle.spec_session.specs.declared.SessionAnswer.{SessionAnswer}
use Rattle.spec_session.specs.declared.SessionAnswer.TheVariants.{Asks, Judged, LookupFailed, NoVerdict}
use Rattle.spec_session.specs.Sessions.{held, kept_name, is_kept, decided, is_asking, asked, verdict_of, standing, state}
use Rattle.spec_session.proofs.Kept.{filling_some, reached, kept_tests}
use Rattle.spec_session.proofs.StepLaws.{live, asks, asks_nothing, state_tells}
use Rattle.spec_session.proofs.AskedName.{at_the_end}
use Rattle.spec_session_words.proofs.SessionUnpacks.{FitsAnswer, KeptAs, kept_as_lem, few_labels}

-- the name that a session keeps
kept_read : (s : Session) (n : Name) → kept_name s ≡ Some n → (held s.name ≡ wire n) × GoodName n
unfolding kept_name
kept_read s n e =
    let (whole, good) = name_read (held s.name) n [] ((filling_some (requested_name (held s.name)) n).0 e) in
    (whole ∙ append-nil (wire n), good)

-- a session that asks for a name: the name is at the end of the kept one
pub record Asking (s : Session) : Type 0 where
  pub takes : is_asking s ≡ true
  pub kept : Name
  pub next : Name
  pub front : List ℕ
  pub is_kept_lem : kept_name s ≡ Some kept
  pub good : GoodName kept
  pub below : s.up < length (base kept)
  pub is_next : next ≡ drop s.up (base kept)
  pub asks_next : asked s ≡ Some next
  pub whole : held s.name ≡ wire kept
  pub ends : held s.name ≡ front ++ wire next
  pub in_words : state s ≡ Asks (length front) (length (wire next))

pub asking : (s : Session) → is_asking s ≡ true → Asking s
unfolding state
asking s t =
    let l = live s t in
    let (whole, good) = kept_read s l.name l.kept in
    let (p, f) = at_the_end s.up l.name in
    let y = drop s.up (base l.name) in
    let named = asks s l.name t l.kept in
    let sizes = length-append p (wire y) in
    let at_p : length (p ++ wire y) - length (wire y) ≡ length p = omega (arith, sizes) in
    record {
      takes = t;
      kept = l.name;
      next = y;
      front = p;
      is_kept_lem = l.kept;
      good = good;
      below = l.below;
      is_next = refl;
      asks_next = named;
      whole = whole;
      ends = whole ∙ f;
      in_words = rw (named, whole, f) (ap (λ i. Asks i (length (wire y))) at_p);
    }

-- a session with the verdict a
pub record Stands (s : Session) (a : SessionAnswer) : Type 0 where
  pub asks_nothing : asked s ≡ None
  pub in_phase : s.phase ≡ 2
  pub keeps : is_kept s ≡ true
  pub kept_verdict : KeptAs s.verdict s.rr s.up a

abbrev pub Says : Session → SessionAnswer → Type 0
Says s (Asks o l) = (h : Asking s) × (o ≡ length h.front) × (l ≡ length (wire h.next))
Says s (Judged j) = Stands s (Judged j)
Says s LookupFailed = Stands s LookupFailed
Says s NoVerdict = (asked s ≡ None) × (standing s ≡ None)

stands : (s : Session) → asked s ≡ None → (a : SessionAnswer) → standing s ≡ Some a → Stands s a
unfolding standing decided
stands s nothing a e = go (eqb s.phase 2 && is_kept s) refl e
  where
    go : (t : Bool) → eqb s.phase 2 && is_kept s ≡ t → cond t (verdict_of s.verdict s.rr s.up) None ≡ Some a → Stands s a
    go true f e =
        let (phase, keeps) = (and-eq-true_iff (eqb s.phase 2) (is_kept s)).0 f in
        record { asks_nothing = nothing; in_phase = eqb-true _ _ phase; keeps = keeps; kept_verdict = kept_as_lem s.verdict s.rr s.up a e }
    go false f e = absurd (none-some a e)

pub says : (s : Session) → Says s (state s)
says s = go (is_asking s) refl
  where
    of_verdict : (a : SessionAnswer) → Stands s a → Says s a
    of_verdict (Asks o l) h = absurd h.kept_verdict
    of_verdict (Judged j) h = h
    of_verdict LookupFailed h = h
    of_verdict NoVerdict h = absurd h.kept_verdict

    ended : asked s ≡ None → (o : Option SessionAnswer) → standing s ≡ o → Says s (state s)
    ended e None f = rw ((state_tells s).2 e f) (e, f)
    ended e (Some a) f = rw ((state_tells s).1 a f) (of_verdict a (stands s e a f))

    go : (t : Bool) → is_asking s ≡ t → Says s (state s)
    go true e = let h = asking s e in rw h.in_words (h, refl, refl)
    go false e = ended (asks_nothing s e) (standing s) refl

-- the numbers that a session tells fit their fields
one_name : 0 < max_names
unfolding max_names
one_name = omega arith

pub few_off : (s : Session) → is_kept s ≡ true → s.up < 127
few_off s e =
    let (n, f, up) = (reached (kept_name s) s.up).0 ((kept_tests s).0 e).0 in
    omega (arith, up, few_labels n (kept_read s n f).1)

said_fits : (s : Session) (a : SessionAnswer) → Says s a → FitsAnswer a
unfolding max_name_octets
said_fits s (Asks o l) (h, at, long) =
    let sizes : length h.front + length (wire h.next) ≡ length (wire h.kept) =
    sym (length-append h.front (wire h.next)) ∙ ap length (sym h.ends ∙ h.whole) in
    let short = h.good.1 in
    (omega arith, omega arith)
said_fits s (Judged Permitted) h = tt
said_fits s (Judged (UnknownCritical d)) h = let (v, e, r) = h.kept_verdict in rw e (one_name, r, few_off s h.keeps)
said_fits s (Judged (NotGranted d)) h = let (v, e, r) = h.kept_verdict in rw e (one_name, r, few_off s h.keeps)
said_fits s (Judged (TooManyAliases d)) h = let (v, e, r) = h.kept_verdict in rw e (one_name, r, few_off s h.keeps)
said_fits s (Judged (Refused q)) h = absurd h.kept_verdict
said_fits s LookupFailed h = tt
said_fits s NoVerdict h = tt

pub state_fits : (s : Session) → FitsAnswer (state s)
state_fits s = said_fits s (state s) (says s)
