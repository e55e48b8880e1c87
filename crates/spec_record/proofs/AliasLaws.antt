-- Data holds the target of an alias exactly when it is the wire form of that name.
use Rattle.std.proofs.lemmas.Option.{same_Some, none-some}
use Rattle.std.specs.Prelude.{Option, None, Some}
use Prim.Native.Nat.{ℕ}
use mathlib.Core.Path.{◌≡◌, refl, sym, ap, ◌∙◌}
use mathlib.Core.Logic.{◌↔◌}
use mathlib.Core.List.{List, [], ◌∷◌, append-nil, cons≢nil}
use Rattle.spec_octets.proofs.ReaderLaws.{pure_some}
use Rattle.spec_name.specs.Names.{Name, wire, name}
use Rattle.spec_name.proofs.NameLaws.{name_is_its_labels}
use Rattle.spec_record.specs.Records.{filling, target}
use Rattle.spec_record.specs.Theorems.{TargetIsItsName}

filling_some : (o : Option (Name × List ℕ)) (t : Name) → (filling o ≡ Some t) ↔ (o ≡ Some (t, []))
filling_some None t = (λ e. absurd (none-some _ e), λ e. absurd (none-some _ e))
filling_some (Some (n, [])) t = (λ e. (pure_some n t [] []).1 (same_Some _ _ e, refl), λ e. ap Some ((pure_some n t [] []).0 e).0)
filling_some (Some (n, x ∷ s)) t = (λ e. absurd (none-some _ e), λ e. absurd (cons≢nil ((pure_some n t (x ∷ s) []).0 e).1))

pub target_is_its_name : TargetIsItsName
unfolding target
target_is_its_name d t = (
  λ e. let (whole, good) = (name_is_its_labels d t []).0 ((filling_some (name d) t).0 e) in (whole ∙ append-nil (wire t), good),
  λ h. (filling_some (name d) t).1 ((name_is_its_labels d t []).1 (h.0 ∙ sym (append-nil (wire t)), h.1)),
)
