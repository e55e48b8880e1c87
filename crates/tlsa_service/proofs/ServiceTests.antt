-- Transport, host and all three together, by the tests that the code makes one after the other.
use Rattle.std.specs.Prelude.{Option, None, Some}
use Prim.Native.Nat.{ℕ, ◌≤◌}
use native.Mathlib.Omega.{arith}
use mathlib.Core.Path.{◌≡◌, refl, sym, ap, ◌∙◌}
use mathlib.Core.Bool.{Bool, true, false, cond, not, ◌&&◌, and-false}
use mathlib.Core.List.{List, [], ◌∷◌}
use lib.Dec.{eqb}
use lib.ListN.{length, drop, length-drop}
use borrow.Author.Tests.{eq-eqb, ne_eqb}
use Rattle.spec_octets.specs.Lists.{is_empty}
use Rattle.spec_octets.specs.Octets.{text, same}
use Rattle.spec_name.specs.Names.{Name}
use Rattle.spec_record.specs.Records.{is_some}
use Rattle.read_request.specs.declared.Requested.{Requested}
use Rattle.read_request.specs.Places.{requested_at}
use Rattle.read_request.proofs.RequestPlaces.{RequestedTo, requested_ends, requested_faults}
use Rattle.spec_tlsa.specs.Owners.{is_port, is_transport, host_name}
use Rattle.tlsa_service.specs.Rules.{keeps_rules}

-- v is the value of the first two tests together
module _ (t : List ℕ) (a v : Bool) (e : a ≡ same t (text "tcp")) where
  pub is_tcp : a ≡ true → v ≡ true → v ≡ is_transport t
  unfolding is_transport
  is_tcp p q = rw (← e, p, q)

  module _ (b : Bool) (f : b ≡ same t (text "udp")) where
    pub is_udp : a ≡ false → v ≡ b → v ≡ true → v ≡ is_transport t
    unfolding is_transport
    is_udp p q r = let u : b ≡ true = sym q ∙ r in rw (← e, p, ← f, u, r)

    pub is_sctp : (c : Bool) → a ≡ false → v ≡ b → v ≡ false → c ≡ same t (text "sctp") → c ≡ is_transport t
    unfolding is_transport
    is_sctp c p q r g = let u : b ≡ false = sym q ∙ r in rw (← e, p, ← f, u, ← g)

module _ (h : List ℕ) where
  pub no_name : None ≡ requested_at h 0 → false ≡ is_some (host_name h)
  unfolding host_name
  no_name f = rw ((requested_faults h 0).0 (sym f))

  module _ (r : Requested) (f : Some r ≡ requested_at h 0) where
    named : (n : Name) × RequestedTo h 0 r n
    named = (requested_ends h 0 r).0 (sym f)

    pub wildcard_name : not r.wildcard ≡ false → not r.wildcard ≡ is_some (host_name h)
    unfolding host_name
    wildcard_name w = by named.0 named.1
      where
        by : (n : Name) → RequestedTo h 0 r n → not r.wildcard ≡ is_some (host_name h)
        by n k = rw (k.found, ← k.wild, w, and-false)

    pub whole_name : not r.wildcard ≡ true → eqb r.next (length h) ≡ is_some (host_name h)
    unfolding host_name
    whole_name w = by named.0 named.1
      where
        go :
            (n : Name) (rest : List ℕ) → drop r.next h ≡ rest → r.next ≤ length h →
            eqb r.next (length h) ≡ is_some {A = Name} (cond (is_empty rest && true) (Some n) None)
        go n [] e inside = eq-eqb r.next (length h) (omega (arith, length-drop r.next h, ap length e))
        go n (x ∷ rest) e inside = ne_eqb r.next (length h) (λ z. omega (arith, length-drop r.next h, ap length e))

        by : (n : Name) → RequestedTo h 0 r n → eqb r.next (length h) ≡ is_some (host_name h)
        by n k = rw (k.found, ← k.wild, w) (go n (drop r.next h) refl k.inside)

-- v is the value of the first two tests together
module _ (h p t : List ℕ) (a v : Bool) (e : a ≡ is_some (host_name h)) where
  pub not_host : a ≡ false → v ≡ false → v ≡ keeps_rules h p t
  unfolding keeps_rules
  not_host q r = rw (← e, q, r)

  module _ (b : Bool) (f : b ≡ is_port p) where
    pub not_port : a ≡ true → v ≡ b → v ≡ false → v ≡ keeps_rules h p t
    unfolding keeps_rules
    not_port q r s = let u : b ≡ false = sym r ∙ s in rw (← e, q, ← f, u, s)

    pub by_transport : (c : Bool) → a ≡ true → v ≡ b → v ≡ true → c ≡ is_transport t → c ≡ keeps_rules h p t
    unfolding keeps_rules
    by_transport c q r s g = let u : b ≡ true = sym r ∙ s in rw (← e, q, ← f, u, ← g)
