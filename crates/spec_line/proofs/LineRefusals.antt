-- Each call is refused exactly by the rows of the requirements' table, and a refusal leaves the buffer unchanged.
use Rattle.std.proofs.lemmas.Option.{none-some, same_Some}
use Rattle.std.specs.Prelude.{Option, None, Some}
use Prim.Native.Nat.{ℕ}
use native.Mathlib.Omega.{arith}
use mathlib.Core.Path.{◌≡◌, refl}
use mathlib.Core.Logic.{◌↔◌, inl, ⊎_elim}
use mathlib.Core.Bool.{Bool, true, false, cond}
use mathlib.Core.List.{List}
use lib.Dec.{leb-zero}
use lib.ListN.{length}
use Rattle.spec_limits.specs.Limits.{max_data_octets, max_line_octets}
use Rattle.spec_refusal.specs.declared.Refusal.TheVariants.{BadLine, BadData}
use Rattle.spec_octets.specs.Octets.{is_letter_or_digit}
use Rattle.spec_octets.proofs.ListLaws.{all_true}
use Rattle.spec_record.specs.Property.{Property, wire_property, property}
use Rattle.spec_record.proofs.PropertyLaws.{property_is_its_parts}
use Rattle.spec_line.specs.Written.{line}
use Rattle.spec_line.specs.Read.{read_line}
use Rattle.spec_line.specs.Calls.{Output, refused, placed, is_writable, written_of, write_line, read_of, parse_line}
use Rattle.spec_line.specs.Grammar.{LineOf}
use Rattle.spec_line.specs.Theorems.{Writable, WriteRefusals, ReadRefusals}
use Rattle.spec_line.proofs.Lines.{line_is_the_grammar}
use Rattle.spec_line.proofs.CallRefusals.{outcome, refusals}

pub apart : ◌≡◌ {A = ℕ} 0 1 → ⊥
apart e = omega arith

-- Reading: the data made must not exceed its limit.

pub read_refusals : ReadRefusals
unfolding parse_line
read_refusals s buffer =
    rw (same (read_line s))
    (refusals (length s) max_line_octets max_data_octets (λ p. length (wire_property p)) wire_property BadLine buffer (read_line s)
    (λ p. LineOf p s) (line_is_the_grammar s) (λ e. apart (cc)) (λ k e. apart (cc)))
  where
    same :
        (o : Option Property) →
        read_of o buffer ≡ outcome (length s) max_line_octets max_data_octets (λ p. length (wire_property p)) wire_property BadLine buffer o
    same None = refl
    same (Some p) = refl

-- Writing: a property that is found but can't be written counts as not found, and none is too large for its line.

abbrev writable : Option Property → Option Property
writable None = None
writable (Some p) = cond (is_writable p) (Some p) None

writable_some : (d : List ℕ) (p : Property) → (writable (property d) ≡ Some p) ↔ Writable d p
writable_some d p = (λ h. read (property d) refl h, stand)
  where
    letters : (q : Property) → q ≡ p → is_writable q ≡ true → property d ≡ Some q → Writable d p
    letters q same good e =
        let (front, tagged) = (property_is_its_parts d p).0 (rw same at e) in
        (front, tagged, (all_true is_letter_or_digit p.tag).0 (rw same at good))

    go : (q : Property) → property d ≡ Some q → (t : Bool) → is_writable q ≡ t → cond t (Some q) None ≡ Some p → Writable d p
    go q e true good h = letters q (same_Some q p h) good e
    go q e false good h = absurd (none-some p h)

    read : (o : Option Property) → property d ≡ o → writable o ≡ Some p → Writable d p
    read None e h = absurd (none-some p h)
    read (Some q) e h = go q e (is_writable q) refl h

    stand : Writable d p → writable (property d) ≡ Some p
    stand w = rw ((property_is_its_parts d p).1 (w.0, w.1), (all_true is_letter_or_digit p.tag).1 w.2)

pub write_refusals : WriteRefusals
unfolding write_line
write_refusals d buffer =
    let rows = refusals (length d) max_data_octets max_data_octets (λ p. 0) line BadData buffer (writable (property d))
    (Writable d) (writable_some d) (λ e. apart (cc)) (λ k e. apart (cc)) in
    rw (same (property d)) (
      (λ h. ⊎_elim (λ k. k) (λ k. absurd (omega (arith, k.1.2))) (rows.0.0 h), λ h. rows.0.1 (inl h)),
      rows.1,
      λ n. (
        λ h. let (short, k) = (rows.2 n).0 h in (short, (k.0, k.1, k.3, k.4)),
        λ h. (rows.2 n).1 (h.0, (h.1.0, h.1.1, omega arith, h.1.2, h.1.3)),
      ),
      rows.3,
    )
  where
    put : Option Property → Output
    put = outcome (length d) max_data_octets max_data_octets (λ p. 0) line BadData buffer

    same : (o : Option Property) → written_of o buffer ≡ put (writable o)
    same None = refl
    same (Some p) = go (is_writable p)
      where
        go : (t : Bool) → cond t (placed (line p) buffer) (refused BadData buffer) ≡ put (cond t (Some p) None)
        go true = rw leb-zero
        go false = refl
