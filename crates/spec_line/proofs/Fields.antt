-- A field of a line ends at its first white space, which is skipped.
use Rattle.std.proofs.lemmas.Option.{none-some}
use Rattle.std.specs.Prelude.{Option, None, Some}
use Prim.Native.Nat.{ℕ}
use mathlib.Core.Path.{◌≡◌, refl, ap}
use mathlib.Core.Logic.{◌↔◌}
use mathlib.Core.Bool.{Bool, true, false, cond}
use mathlib.Core.List.{List, [], ◌∷◌, ◌++◌}
use Rattle.spec_octets.specs.Lists.{begins, all_nil, all_cons}
use Rattle.spec_octets.specs.Octets.{is_blank, trim_start}
use Rattle.spec_octets.proofs.ReaderLaws.{pure_some}
use Rattle.spec_octets.proofs.Trims.{trimmed}
use Rattle.spec_octets.proofs.Runs.{Blank, Blankless, many_of, of_many}
use Rattle.spec_line.specs.Read.{extend_field, field}
use Rattle.spec_line.specs.Grammar.{some_blanks}

blanks_off : {b : List ℕ} → Blank b → (s : List ℕ) → begins is_blank s ≡ false → trim_start (b ++ s) ≡ s
blanks_off all_nil [] n = refl
blanks_off all_nil (x ∷ s) n = rw n
blanks_off (all_cons h hs) s n = rw h (blanks_off hs s n)

-- f stands at the front of s, then blanks, then rest
abbrev pub Apart : List ℕ → List ℕ → List ℕ → Type 0
Apart s f rest = (b : List ℕ) × (s ≡ f ++ (b ++ rest)) × Blankless f × some_blanks b × (begins is_blank rest ≡ false)

field_read : (s f rest : List ℕ) → field s ≡ Some (f, rest) → Apart s f rest
field_read [] f rest h = absurd (none-some _ h)
field_read (x ∷ s) f rest h = go (is_blank x) refl h (field_read s)
  where
    longer : (a r : List ℕ) → (x ∷ a ≡ f) × (r ≡ rest) → is_blank x ≡ false → Apart s a r → Apart (x ∷ s) f rest
    longer a r e n k = rw (← e.0, ← e.1) (k.0, ap (◌∷◌ x) k.1, all_cons n k.2, k.3, k.4)

    next :
        (o : Option (List ℕ × List ℕ)) → field s ≡ o → extend_field x o ≡ Some (f, rest) → is_blank x ≡ false →
        ((f rest : List ℕ) → field s ≡ Some (f, rest) → Apart s f rest) → Apart (x ∷ s) f rest
    next None e h n more = absurd (none-some _ h)
    next (Some r) e h n more = longer r.0 r.1 ((pure_some (x ∷ r.0) f r.1 rest).0 h) n (more r.0 r.1 e)

    here : ([] ≡ f) × (trim_start s ≡ rest) → is_blank x ≡ true → Apart (x ∷ s) f rest
    here e y =
        let (b, front, blank, n) = trimmed s in
        rw (← e.0, ← e.1) (x ∷ b, ap (◌∷◌ x) front, all_nil, (x ∷ [], b, refl, (x, refl, y), of_many blank), n)

    go :
        (t : Bool) → is_blank x ≡ t → cond t (λ r. Some ([], trim_start s)) (extend_field x) (field s) ≡ Some (f, rest) →
        ((f rest : List ℕ) → field s ≡ Some (f, rest) → Apart s f rest) → Apart (x ∷ s) f rest
    go true e h more = here ((pure_some [] f (trim_start s) rest).0 h) e
    go false e h more = next (field s) refl h e more

field_stand :
    {f : List ℕ} → Blankless f → (x : ℕ) → is_blank x ≡ true → {b : List ℕ} → Blank b → (rest : List ℕ) → begins is_blank rest ≡ false →
    field (f ++ (x ∷ b ++ rest)) ≡ Some (f, rest)
field_stand all_nil x y k rest n = rw (y, blanks_off k rest n)
field_stand (all_cons h hs) x y k rest n = rw (h, field_stand hs x y k rest n)

pub field_apart : (s f rest : List ℕ) → (field s ≡ Some (f, rest)) ↔ Apart s f rest
field_apart s f rest = (field_read s f rest, stand)
  where
    stand : Apart s f rest → field s ≡ Some (f, rest)
    stand k =
        let (b, front, clean, some-blanks, n) = k in
        let (a, bs, e, o, more) = some-blanks in
        rw (front, e, o.1) (field_stand clean o.0 o.2 (many_of more) rest n)
