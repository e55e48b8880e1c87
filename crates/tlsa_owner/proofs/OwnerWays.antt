-- The returns of write_owner: what write_owner is at each, from what the code has found.
use Rattle.std.proofs.lemmas.Option.{none-some, same_Some}
use Rattle.std.specs.Prelude.{Option, None, Some, Ok, Err}
use Prim.Native.Nat.{ℕ, suc, ◌+◌, ◌≤◌, ◌<◌}
use native.Mathlib.Omega.{arith}
use native.Mathlib.Numerals.{add-one}
use mathlib.Core.Path.{◌≡◌, refl, sym, ap, subst, ◌∙◌}
use mathlib.Core.Logic.{◌⊎◌, inl, inr}
use mathlib.Core.Bool.{Bool, true, false, cond, not, ◌&&◌, ◌||◌, and-eq-true_iff, false≢true}
use mathlib.Core.List.{List, [], ◌∷◌, ◌++◌, append_assoc, append-nil}
use lib.Dec.{leb, eqb}
use lib.ListN.{length, length-append}
use mir.Syntax.{w64}
use mir.Val.{Fits}
use borrow.Author.Tests.{leb-true, le-leb, lt-leb}
use Rattle.spec_limits.specs.Limits.{max_name_octets}
use Rattle.spec_refusal.specs.declared.Refusal.TheVariants.{NoRoom}
use Rattle.spec_octets.specs.Lists.{all, begins, is_empty}
use Rattle.spec_octets.specs.Octets.{text, same, between, is_digit}
use Rattle.spec_octets.specs.Decimal.{decimal_from}
use Rattle.spec_octets.specs.Buffer.{Put}
use Rattle.spec_octets.specs.Reader.{if_read}
use Rattle.spec_octets.proofs.ListLaws.{or_eq_true}
use Rattle.spec_octets.proofs.Texts.{same_equal}
use Rattle.spec_octets.proofs.ReaderLaws.{bind_some, given_some}
use Rattle.spec_name.specs.Names.{Name, wire, name}
use Rattle.spec_name.proofs.NameLaws.{name_is_its_labels}
use Rattle.spec_request.specs.Request.{is_wildcard, is_requestable, requested_name}
use Rattle.spec_record.specs.Records.{is_some}
use Rattle.spec_line.specs.Calls.{refused, placed}
use Rattle.spec_line.proofs.Placed.{placed_there, placed_nowhere}
use Rattle.spec_tlsa.specs.Owners.{max_port, is_port, is_transport, host_name, prefixed, owner_from, service_owner}
use Rattle.spec_tlsa.specs.Calls.{bad_service, owner_placed, write_owner}
use Rattle.tlsa_service.specs.Rules.{keeps_rules}
use Rattle.tlsa_owner.specs.Places.{service, owner_octets}

-- the octets of a host are its wire form, at most 255
pub record HostTo (h : List ℕ) (x : Name) : Type 0 where
  pub found : host_name h ≡ Some x
  pub octets : h ≡ wire x
  pub short : length h ≤ 255

host_to : (h : List ℕ) (x : Name) → host_name h ≡ Some x → HostTo h x
unfolding host_name requested_name max_name_octets
host_to h x e = go (requested_name h) refl e
  where
    whole : (n : Name) (rest : List ℕ) → requested_name h ≡ Some (n, rest) → is_empty rest ≡ true → n ≡ x → HostTo h x
    whole n (y ∷ rest) r ended same = absurd (false≢true ended)
    whole n [] r ended same =
        let (m, mid, found, ok) = (bind_some name _ h n []).0 r in
        let (t, is, left) = (given_some (is_requestable m) m n mid []).0 ok in
        let (front, good) = (name_is_its_labels h m mid).0 found in
        let octets : h ≡ wire x = front ∙ rw (left, is, same) (append-nil (wire x)) in
        record { found = e; octets = octets; short = rw (octets, ← same, ← is) good.1 }

    chosen : (t : Bool) (n : Name) → cond t (Some n) None ≡ Some x → (t ≡ true) × (n ≡ x)
    chosen true n f = (refl, same_Some n x f)
    chosen false n f = absurd (none-some x f)

    go :
        (r : Option (Name × List ℕ)) → requested_name h ≡ r →
        if_read None r (λ n rest. cond (is_empty rest && not (is_wildcard n)) (Some n) None) ≡ Some x → HostTo h x
    go None r f = absurd (none-some x f)
    go (Some (n, rest)) r f =
        let (t, same) = chosen (is_empty rest && not (is_wildcard n)) n f in
        whole n rest r ((and-eq-true_iff (is_empty rest) (not (is_wildcard n))).0 t).0 same

port_length : (p : List ℕ) → is_port p ≡ true → length p ≤ 5
unfolding is_port
port_length p e =
    let (front, low) = (and-eq-true_iff (between 1 5 (length p) && all is_digit p && (eqb (length p) 1 || not (begins (eqb 48) p))) (leb (decimal_from 0 p) max_port)).0 e in
    let (digits, bare) = (and-eq-true_iff (between 1 5 (length p) && all is_digit p) (eqb (length p) 1 || not (begins (eqb 48) p))).0 front in
    let (short, all_digits) = (and-eq-true_iff (between 1 5 (length p)) (all is_digit p)).0 digits in
    leb-true (length p) 5 ((and-eq-true_iff (leb 1 (length p)) (leb (length p) 5)).0 short).1

transport_length : (t : List ℕ) → is_transport t ≡ true → length t ≤ 4
unfolding is_transport
transport_length t e = last ((or_eq_true (same t (text "tcp") || same t (text "udp")) (same t (text "sctp"))).0 e)
  where
    first : (same t (text "tcp") ≡ true) ⊎ (same t (text "udp") ≡ true) → length t ≤ 4
    first (inl e) = rw ((same_equal t (text "tcp")).0 e) (omega arith)
    first (inr e) = rw ((same_equal t (text "udp")).0 e) (omega arith)

    last : (same t (text "tcp") || same t (text "udp") ≡ true) ⊎ (same t (text "sctp") ≡ true) → length t ≤ 4
    last (inl e) = first ((or_eq_true (same t (text "tcp")) (same t (text "udp"))).0 e)
    last (inr e) = rw ((same_equal t (text "sctp")).0 e) (omega arith)

module _ (h p t b : List ℕ) (a : Bool) (told : a ≡ keeps_rules h p t) where
  refused_way : a ≡ false → write_owner (service h p t) b ≡ refused bad_service b
  unfolding write_owner service_owner keeps_rules
  refused_way f = go (host_name h) (sym told ∙ f)
    where
      fits : Name → Bool
      fits x = leb (length (wire (prefixed p t x))) max_name_octets

      go : (o : Option Name) → is_some o && (is_port p && is_transport t) ≡ false → owner_placed (owner_from p t o) b ≡ refused bad_service b
      go None e = refl
      go (Some x) e = rw e

  pub refused_answer : a ≡ false → Err bad_service ≡ (write_owner (service h p t) b).answer
  refused_answer f = rw (refused_way f)

  pub refused_octets : a ≡ false → b ≡ (write_owner (service h p t) b).buffer
  refused_octets f = rw (refused_way f)

  module _ (kept : a ≡ true) where
    tests : (is_some (host_name h) ≡ true) × (is_port p && is_transport t ≡ true)
    unfolding keeps_rules
    tests = (and-eq-true_iff (is_some (host_name h)) (is_port p && is_transport t)).0 (sym told ∙ kept)

    host : (x : Name) × HostTo h x
    host = go (host_name h) refl tests.0
      where
        go : (o : Option Name) → host_name h ≡ o → is_some o ≡ true → (x : Name) × HostTo h x
        go None e f = absurd (false≢true f)
        go (Some x) e f = (x, host_to h x e)

    texts : (length p ≤ 5) × (length t ≤ 4)
    texts = let (port, transport) = (and-eq-true_iff (is_port p) (is_transport t)).0 tests.1 in (port_length p port, transport_length t transport)

    pub sum_2_fits : Fits w64 (length p + length t)
    sum_2_fits = record { fits = omega (arith, texts) }

    pub sum_3_fits : Fits w64 (length p + length t + length h)
    sum_3_fits = record { fits = omega (arith, texts, host.1.short) }

    pub sum_4_fits : Fits w64 (length p + length t + length h + 4)
    sum_4_fits = record { fits = omega (arith, texts, host.1.short) }

    -- the wire form of the owner is what the code writes
    wire_form : (x : Name) → h ≡ wire x → wire (prefixed p t x) ≡ owner_octets p t h
    wire_form x e =
        rw (e, add-one (length p), add-one (length t))
        (ap (λ s. suc (length p) ∷ 95 ∷ s) (sym (append_assoc p (suc (length t) ∷ 95 ∷ t) (wire x))))

    pub owner_length : length (owner_octets p t h) ≡ length p + length t + length h + 4
    owner_length = omega (arith, length-append (p ++ ((length t + 1) ∷ 95 ∷ t)) h, length-append p ((length t + 1) ∷ 95 ∷ t))

    by_length : write_owner (service h p t) b ≡ cond (leb (length (owner_octets p t h)) max_name_octets) (placed (owner_octets p t h) b) (refused bad_service b)
    unfolding write_owner service_owner
    by_length = go host.0 host.1
      where
        chosen : (y : Name) (u : Bool) → owner_placed (cond u (Some y) None) b ≡ cond u (placed (wire y) b) (refused bad_service b)
        chosen y true = refl
        chosen y false = refl

        go :
            (x : Name) → HostTo h x →
            write_owner (service h p t) b
            ≡ cond (leb (length (owner_octets p t h)) max_name_octets) (placed (owner_octets p t h) b) (refused bad_service b)
        go x k =
            let y = prefixed p t x in
            rw (k.found, tests.1)
            (subst
            (λ s. owner_placed (cond (leb (length (wire y)) max_name_octets) (Some y) None) b
            ≡ cond (leb (length s) max_name_octets) (placed s b) (refused bad_service b))
            (wire_form x k.octets)
            (chosen y (leb (length (wire y)) max_name_octets)))

    module _ (long : 255 < length p + length t + length h + 4) where
      long_way : write_owner (service h p t) b ≡ refused bad_service b
      unfolding max_name_octets
      long_way = by_length ∙ rw (lt-leb (length (owner_octets p t h)) 255 (omega (arith, owner_length)))

      pub long_answer : Err bad_service ≡ (write_owner (service h p t) b).answer
      long_answer = rw long_way

      pub long_octets : b ≡ (write_owner (service h p t) b).buffer
      long_octets = rw long_way

    module _ (short : length p + length t + length h + 4 ≤ 255) where
      pub owner_short : length (owner_octets p t h) ≤ max_name_octets
      unfolding max_name_octets
      owner_short = omega (arith, owner_length)

      placed_way : write_owner (service h p t) b ≡ placed (owner_octets p t h) b
      placed_way = by_length ∙ rw (le-leb (length (owner_octets p t h)) max_name_octets owner_short)

      module _ (less : length b < length p + length t + length h + 4) where
        tight_way : write_owner (service h p t) b ≡ refused (NoRoom (length p + length t + length h + 4)) b
        tight_way = placed_way ∙ placed_nowhere (owner_octets p t h) b (length p + length t + length h + 4) (sym owner_length) less

        pub tight_answer : Err (NoRoom (length p + length t + length h + 4)) ≡ (write_owner (service h p t) b).answer
        tight_answer = rw tight_way

        pub tight_octets : b ≡ (write_owner (service h p t) b).buffer
        tight_octets = rw tight_way

      module _ (room : length p + length t + length h + 4 ≤ length b) where
        pub owner_room : length (owner_octets p t h) ≤ length b
        owner_room = omega (arith, owner_length)

        module _ (x : List ℕ) (j : ℕ) (put : Put (owner_octets p t h) b x j) where
          written_way : write_owner (service h p t) b ≡ record { answer = Ok (length p + length t + length h + 4); buffer = x }
          written_way = placed_way ∙ placed_there (owner_octets p t h) b x (length p + length t + length h + 4) j (sym owner_length) room put

          pub written_answer : Ok (length p + length t + length h + 4) ≡ (write_owner (service h p t) b).answer
          written_answer = rw written_way

          pub written_octets : x ≡ (write_owner (service h p t) b).buffer
          written_octets = rw written_way
