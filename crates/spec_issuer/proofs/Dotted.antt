-- An issuer domain name is valid labels joined by dots, and is refused exactly when it is not.
use Prim.Native.Nat.{ℕ}
use Prim.Native.Char.{code}
use mathlib.Core.Path.{◌≡◌}
use mathlib.Core.Logic.{◌≢◌}
use mathlib.Core.Bool.{true, and-eq-true_iff}
use mathlib.Core.List.{List}
use lib.Dec.{leb}
use lib.ListN.{length}
use borrow.Author.Tests.{leb-true, le-leb}
use Rattle.spec_limits.specs.Limits.{max_label_octets, max_issuer_octets}
use Rattle.spec_refusal.specs.declared.Refusal.TheVariants.{BadIssuer}
use Rattle.spec_refusal.proofs.Tested.{refused_unless}
use Rattle.spec_octets.specs.Lists.{all, All}
use Rattle.spec_octets.specs.Octets.{between}
use Rattle.spec_octets.specs.Label.{is_label, is_host_label}
use Rattle.spec_octets.specs.Pieces.{split}
use Rattle.spec_octets.proofs.ListLaws.{All-imp}
use Rattle.spec_octets.proofs.Labels.{host_labels}
use Rattle.spec_octets.proofs.DottedLabels.{pieces_pass, label_dotless}
use Rattle.spec_issuer.specs.Issuer.{is_issuer, issuer_refusal}
use Rattle.spec_issuer.specs.Theorems.{IssuerIsItsLabels, IssuerRefusals}

host_dotless : (l : List ℕ) → is_host_label l ≡ true → All (λ x. x ≢ code ".") l
unfolding is_host_label
host_dotless l h = label_dotless l ((and-eq-true_iff (leb (length l) max_label_octets) (is_label l)).0 h).1

pub issuer_is_its_labels : IssuerIsItsLabels
unfolding is_issuer
issuer_is_its_labels d =
    let both = and-eq-true_iff (between 1 max_issuer_octets (length d)) (all is_host_label (split (code ".") d)) in
    let sized = and-eq-true_iff (leb 1 (length d)) (leb (length d) max_issuer_octets) in
    let labels = pieces_pass (code ".") is_host_label host_dotless d in (
      λ e. let size = sized.0 (both.0 e).0 in
          let j = labels.0 (both.0 e).1 in
          (leb-true 1 (length d) size.0, leb-true (length d) max_issuer_octets size.1, (j.0, j.1, j.2, All-imp (λ l. (host_labels l).0) j.3)),
      λ w. let j = w.2 in
          both.1 (
            sized.1 (le-leb 1 (length d) w.0, le-leb (length d) max_issuer_octets w.1),
            labels.1 (j.0, j.1, j.2, All-imp (λ l. (host_labels l).1) j.3),
          ),
    )

pub issuer_refusals : IssuerRefusals
unfolding issuer_refusal
issuer_refusals d = refused_unless BadIssuer (is_issuer d) (issuer_is_its_labels d)
