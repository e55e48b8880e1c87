-- Which sessions keep the rules, and what such a session asks for.
use Rattle.std.proofs.lemmas.Option.{same_Some, none-some}
use Rattle.std.specs.Prelude.{Option, None, Some}
use Prim.Native.Nat.{ℕ, ◌<◌}
use mathlib.Core.Path.{◌≡◌, refl, ap, sym, ◌∙◌}
use mathlib.Core.Logic.{◌↔◌}
use mathlib.Core.Bool.{Bool, true, false, ◌&&◌, false≢true, and-eq-true_iff}
use mathlib.Core.List.{List, [], ◌∷◌, append-nil, cons≢nil}
use lib.Dec.{eqb}
use lib.ListN.{length}
use borrow.Author.Tests.{ltb-true, lt-ltb}
use Rattle.spec_octets.specs.Octets.{Octets}
use Rattle.spec_octets.proofs.ReaderLaws.{pure_some}
use Rattle.spec_name.specs.Names.{Name, wire}
use Rattle.spec_request.specs.Request.{base, requested_name, GoodRequested}
use Rattle.spec_request.proofs.RequestedNames.{requested_name_is_its_labels}
use Rattle.spec_issuer.specs.Issuer.{is_issuer}
use Rattle.spec_issuer.proofs.Dotted.{issuer_is_its_labels}
use Rattle.spec_applicant.specs.Applicant.{is_applicant}
use Rattle.spec_applicant.proofs.Texts.{applicant_texts}
use Rattle.spec_record.specs.Records.{filling}
use Rattle.spec_session.specs.declared.Session.{Session}
use Rattle.spec_session.specs.Sessions.{held, kept_name, kept_applicant, reaches, is_kept, asking, decided, is_asking, asked, standing}
use Rattle.spec_session.specs.Meaning.{KeptWell}
use Rattle.spec_session.specs.Theorems.{BrokenIsEnded, KeptExactly}

-- a name that fills the octets
pub filling_some : (o : Option (Name × List ℕ)) (n : Name) → (filling o ≡ Some n) ↔ (o ≡ Some (n, []))
filling_some None n = (λ e. absurd (none-some _ e), λ e. absurd (none-some _ e))
filling_some (Some (m, [])) n = (λ e. (pure_some m n [] []).1 (same_Some _ _ e, refl), λ e. ap Some ((pure_some m n [] []).0 e).0)
filling_some (Some (m, x ∷ s)) n = (λ e. absurd (none-some _ e), λ e. absurd (cons≢nil ((pure_some m n (x ∷ s) []).0 e).1))

pub one_name_read : (s : List ℕ) → Octets s → (n : Name) → (filling (requested_name s) ≡ Some n) ↔ ((s ≡ wire n) × GoodRequested n)
one_name_read s o n = (
  λ e. let (whole, good) = (requested_name_is_its_labels s o n []).0 ((filling_some (requested_name s) n).0 e) in (whole ∙ append-nil (wire n), good),
  λ h. (filling_some (requested_name s) n).1 ((requested_name_is_its_labels s o n []).1 (h.0 ∙ sym (append-nil (wire n)), h.1)),
)

-- a name is kept, and more labels than are taken off
pub reached : (o : Option Name) (u : ℕ) → (reaches o u ≡ true) ↔ ((n : Name) × (o ≡ Some n) × (u < length (base n)))
reached None u = (λ e. absurd (false≢true e), λ (n, e, h). absurd (none-some n e))
reached (Some n) u = (
  λ e. (n, refl, ltb-true u (length (base n)) e),
  λ (m, e, h). let same = same_Some n m e in rw same (lt-ltb u (length (base m)) h),
)

-- the three tests of a session that keeps the rules
pub kept_tests :
    (s : Session) →
    (is_kept s ≡ true)
    ↔ ((reaches (kept_name s) s.up ≡ true) × (is_issuer (held s.issuer) ≡ true) × (is_applicant (kept_applicant s) ≡ true))
unfolding is_kept
kept_tests s = (
  λ e.
      let (both, who) = (and-eq-true_iff (reaches (kept_name s) s.up && is_issuer (held s.issuer)) (is_applicant (kept_applicant s))).0 e in
      let (name, issuer) = (and-eq-true_iff (reaches (kept_name s) s.up) (is_issuer (held s.issuer))).0 both in
      (name, issuer, who),
  λ h. rw (h.0, h.1, h.2) refl,
)

pub kept_exactly : KeptExactly
unfolding kept_name
kept_exactly s o = (there, back)
  where
    there : is_kept s ≡ true → KeptWell s
    there e =
        let (name, issuer, who) = (kept_tests s).0 e in
        let (n, f, up) = (reached (kept_name s) s.up).0 name in
        let (whole, good) = (one_name_read (held s.name) o n).0 f in
        (n, whole, good, up, (issuer_is_its_labels _).0 issuer, (applicant_texts _).0 who)

    back : KeptWell s → is_kept s ≡ true
    back (n, whole, good, up, issuer, who) =
        (kept_tests s).1 (
          (reached (kept_name s) s.up).1 (n, (one_name_read (held s.name) o n).1 (whole, good), up),
          (issuer_is_its_labels _).1 issuer,
          (applicant_texts _).1 who,
        )

and_false : (t : Bool) → t && false ≡ false
and_false true = refl
and_false false = refl

pub broken_is_ended : BrokenIsEnded
unfolding asked standing is_asking
broken_is_ended s e = rw (e, and_false (eqb s.phase asking), and_false (eqb s.phase decided)) (refl, refl)
