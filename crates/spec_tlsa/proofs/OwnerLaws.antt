-- A service has an owner exactly when host, port and transport keep their rules.
use Rattle.std.proofs.lemmas.Option.{none-some, same_Some}
use Rattle.std.specs.Prelude.{Option, None, Some}
use Prim.Native.Nat.{ℕ, ◌≤◌}
use native.Mathlib.Omega.{arith}
use mathlib.Core.Path.{◌≡◌, refl, sym, ap, subst, ◌∙◌}
use mathlib.Core.Logic.{◌↔◌, ◌⊎◌, inl, inr}
use mathlib.Core.Bool.{Bool, true, false, cond, not, ◌&&◌, ◌||◌, and-eq-true_iff, true≢false, false≢true}
use mathlib.Core.List.{List, [], ◌∷◌, append-nil}
use lib.Dec.{leb}
use lib.ListN.{length}
use borrow.Author.Tests.{leb-true, le-leb, not-true}
use Rattle.spec_limits.specs.Limits.{max_name_octets, max_label_octets}
use Rattle.spec_octets.specs.Lists.{is_empty, all_cons}
use Rattle.spec_octets.specs.Octets.{Octets, text, same, is_digit, is_upper, is_lower, is_letter_or_digit}
use Rattle.spec_octets.specs.Label.{is_letter_digit_hyphen}
use Rattle.spec_octets.specs.WrittenDecimal.{decimal}
use Rattle.spec_octets.specs.Reader.{if_read}
use Rattle.spec_octets.proofs.ListLaws.{or_eq_true, All-head}
use Rattle.spec_octets.proofs.Texts.{same_equal}
use Rattle.spec_name.specs.Names.{Name, wire}
use Rattle.spec_request.specs.Request.{is_wildcard, requested_name, GoodRequested}
use Rattle.spec_request.proofs.RequestedNames.{wildcard_form, requested_name_is_its_labels}
use Rattle.spec_tlsa.specs.Owners.{is_port, is_transport, host_name, prefixed, owner_from, service_owner}
use Rattle.spec_tlsa.specs.Meaning.{GoodHost, Transport, OwnerOf}
use Rattle.spec_tlsa.specs.Pinned.{PrefixForm}
use Rattle.spec_tlsa.specs.Theorems.{OwnerIsItsParts, OwnerIsValid}
use Rattle.spec_tlsa.proofs.Ports.{port_is_a_decimal, port_short}

pub prefix_form : PrefixForm
prefix_form p t x = refl

chosen : {A : Type 0} (t : Bool) (a b : A) → (cond t (Some a) None ≡ Some b) ↔ ((t ≡ true) × (a ≡ b))
chosen true a b = (λ e. (refl, same_Some a b e), λ h. ap Some h.1)
chosen false a b = (λ e. absurd (none-some b e), λ h. absurd (false≢true h.0))

transport_exactly : (t : List ℕ) → (is_transport t ≡ true) ↔ Transport t
unfolding is_transport
transport_exactly t = (λ e. read ((or_eq_true _ (same t (text "sctp"))).0 e), stand)
  where
    front : (same t (text "tcp") ≡ true) ⊎ (same t (text "udp") ≡ true) → Transport t
    front (inl e) = inl ((same_equal t (text "tcp")).0 e)
    front (inr e) = inr (inl ((same_equal t (text "udp")).0 e))

    read : (same t (text "tcp") || same t (text "udp") ≡ true) ⊎ (same t (text "sctp") ≡ true) → Transport t
    read (inl e) = front ((or_eq_true (same t (text "tcp")) (same t (text "udp"))).0 e)
    read (inr e) = inr (inr ((same_equal t (text "sctp")).0 e))

    stand : Transport t → is_transport t ≡ true
    stand (inl e) = rw e
    stand (inr (inl e)) = rw e
    stand (inr (inr e)) = rw e

-- a valid host is a valid requested name, and no wildcard
host_plain : (h : Name) → GoodHost h → is_wildcard h ≡ false
unfolding is_letter_digit_hyphen is_letter_or_digit is_upper is_lower is_digit
host_plain [] (good, full, hosts) = absurd (full refl)
host_plain (l ∷ h) (good, full, hosts) = (wildcard_form.1 l h (λ e. false≢true (All-head (rw e at (All-head hosts).2)))).0

good_host : (h : Name) → GoodRequested h → is_wildcard h ≡ false → GoodHost h
good_host h (good, (x, inl e, full, hosts)) plain = (good, rw e full, rw e hosts)
good_host h (good, (x, inr e, full, hosts)) plain = absurd (true≢false (sym (wildcard_form.0 x).0 ∙ rw e at plain))

pub host_exactly : (s : List ℕ) → Octets s → (h : Name) → (host_name s ≡ Some h) ↔ ((s ≡ wire h) × GoodHost h)
unfolding host_name
host_exactly s o h = (λ e. read (requested_name s) refl e, stand)
  where
    whole : (n : Name) (rest : List ℕ) → requested_name s ≡ Some (n, rest) → is_empty rest ≡ true → is_wildcard n ≡ false → (s ≡ wire n) × GoodHost n
    whole n [] r e plain = let (front, good) = (requested_name_is_its_labels s o n []).0 r in (front ∙ append-nil (wire n), good_host n good plain)
    whole n (x ∷ rest) r e plain = absurd (false≢true e)

    read :
        (r : Option (Name × List ℕ)) → requested_name s ≡ r →
        if_read None r (λ n rest. cond (is_empty rest && not (is_wildcard n)) (Some n) None) ≡ Some h → (s ≡ wire h) × GoodHost h
    read None r e = absurd (none-some h e)
    read (Some (n, rest)) r e =
        let (t, is) = (chosen (is_empty rest && not (is_wildcard n)) n h).0 e in
        let (ended, plain) = (and-eq-true_iff (is_empty rest) (not (is_wildcard n))).0 t in
        rw (← is) (whole n rest r ended (not-true (is_wildcard n) plain))

    stand : (s ≡ wire h) × GoodHost h → host_name s ≡ Some h
    stand (front, good) =
        let read = (requested_name_is_its_labels s o h []).1 (front ∙ sym (append-nil (wire h)), (good.0, (h, inl refl, good.1, good.2))) in
        rw (read, host_plain h good)

pub owner_is_its_parts : OwnerIsItsParts
unfolding service_owner
owner_is_its_parts s o x = (λ e. read (host_name s.host) refl e, stand)
  where
    fits : Name → Bool
    fits h = leb (length (wire (prefixed s.port s.transport h))) max_name_octets

    read : (r : Option Name) → host_name s.host ≡ r → owner_from s.port s.transport r ≡ Some x → OwnerOf s x
    read None r e = absurd (none-some x e)
    read (Some h) r e =
        let (t, is) = (chosen (is_port s.port && is_transport s.transport && fits h) (prefixed s.port s.transport h) x).0 e in
        let (front, short) = (and-eq-true_iff (is_port s.port && is_transport s.transport) (fits h)).0 t in
        let (port, transport) = (and-eq-true_iff (is_port s.port) (is_transport s.transport)).0 front in
        let (n, decimal-n, low) = (port_is_a_decimal s.port).0 port in
        let (whole, good) = (host_exactly s.host o h).0 r in (
          h,
          n,
          whole,
          good,
          decimal-n,
          low,
          (transport_exactly s.transport).0 transport,
          rw (← decimal-n) (sym is),
          rw (← is) (leb-true _ max_name_octets short),
        )

    stand : OwnerOf s x → owner_from s.port s.transport (host_name s.host) ≡ Some x
    stand (h, n, whole, good, decimal-n, low, transport, is, short) =
        let made : prefixed s.port s.transport h ≡ x = rw decimal-n (sym is) in
        let room = le-leb _ max_name_octets (subst (λ y. length (wire y) ≤ max_name_octets) (sym made) short) in
        let texts =
        (and-eq-true_iff (is_port s.port) (is_transport s.transport)).1
        ((port_is_a_decimal s.port).1 (n, decimal-n, low), (transport_exactly s.transport).1 transport) in
        rw ((host_exactly s.host o h).1 (whole, good))
        ((chosen (is_port s.port && is_transport s.transport && fits h) (prefixed s.port s.transport h) x).1
        ((and-eq-true_iff (is_port s.port && is_transport s.transport) (fits h)).1 (texts, room), made))

pub owner_is_valid : OwnerIsValid
unfolding max_label_octets
owner_is_valid s x (h, n, whole, good, decimal-n, low, transport, is, short) = (
  rw is (all_cons {x = 95 ∷ decimal n} (omega arith, omega (arith, port_short n low))
      (all_cons {x = 95 ∷ s.transport} (omega arith, short_transport transport) good.0.0)),
  short,
)
  where
    short_transport : Transport s.transport → length (95 ∷ s.transport) ≤ max_label_octets
    short_transport (inl e) = rw e (omega arith)
    short_transport (inr (inl e)) = rw e (omega arith)
    short_transport (inr (inr e)) = rw e (omega arith)
