-- The parameters that are read from a value are those that the productions match, in their order.
use Prim.Native.Nat.{ℕ}
use Prim.Native.Char.{code}
use mathlib.Core.Path.{◌≡◌, refl, sym, ◌∙◌}
use mathlib.Core.Logic.{inl, inr}
use mathlib.Core.Bool.{true, false, false≢true}
use mathlib.Core.List.{List, [], ◌∷◌, ◌++◌, map, append-nil, append_assoc}
use Rattle.spec_octets.specs.Lists.{all, all_nil}
use Rattle.spec_octets.specs.Octets.{is_blank, trim_end}
use Rattle.spec_octets.specs.Pieces.{split}
use Rattle.spec_octets.proofs.ListLaws.{all_true, All-join, not_passed}
use Rattle.spec_octets.proofs.PieceLaws.{pieces_join}
use Rattle.spec_octets.proofs.Runs.{Blank, many_of}
use Rattle.spec_octets.proofs.TrimEnds.{trim_end_leaves}
use Rattle.spec_value.specs.IssueValues.{trim, is_parameter_tag, is_parameter, is_blank_alone}
use Rattle.spec_value.specs.Parameters.{Parameter, parameter_in, behind_name, parameters_in}
use Rattle.spec_value.specs.Productions.{blanks, parameter, parameters, more, last, parameter_part, parameter_of, parameters_of, parameter_part_of, value_of}
use Rattle.spec_value.specs.Theorems.{ParametersByTheGrammar, ProductionsAgree}
use Rattle.spec_value.proofs.Classes.{Free}
use Rattle.spec_value.proofs.Blanks.{trim_leaves}
use Rattle.spec_value.proofs.Cuts.{split_one, split_more}
use Rattle.spec_value.proofs.DomainNames.{domain_name_matches, domain_name_free}
use Rattle.spec_value.proofs.Parameters.{Spelled, tag_matches, tag_blankless, no_empty_tag, cut_at_equals, value_blankless, blank_free, parameter_free}
use Rattle.spec_value.proofs.ParameterParts.{pieces}
use Rattle.spec_value.proofs.Values.{value_is_the_grammar}

-- From the productions with names to those without, and back.

unnamed : (p : Parameter) {s : List ℕ} → parameter_of p s → parameter s
unnamed p m =
    let (t, s₁, e₁, tagged, m₁) = m in
    let (b, s₂, e₂, before, m₂) = m₁ in
    let (c, s₃, e₃, equals, m₃) = m₂ in
    let (a, v, e₄, after, valued) = m₃ in
    (t, s₁, e₁, tagged.1, (b, s₂, e₂, before, (c, s₃, e₃, equals, (a, v, e₄, after, valued.1))))

with_its_parts : {s : List ℕ} → parameter s → (p : Parameter) × parameter_of p s
with_its_parts m =
    let (t, s₁, e₁, tagged, m₁) = m in
    let (b, s₂, e₂, before, m₂) = m₁ in
    let (c, s₃, e₃, equals, m₃) = m₂ in
    let (a, v, e₄, after, valued) = m₃ in
    (record { tag = t; value = v }, (t, s₁, e₁, (refl, tagged), (b, s₂, e₂, before, (c, s₃, e₃, equals, (a, v, e₄, after, (refl, valued))))))

-- a parameter, blanks, a semicolon, blanks and the rest, put together in two ways
regrouped : {s r₁ r₂ r₃ : List ℕ} (x b₁ c b₂ y : List ℕ) → s ≡ x ++ r₁ → r₁ ≡ b₁ ++ r₂ → r₂ ≡ c ++ r₃ → r₃ ≡ b₂ ++ y →
    s ≡ (x ++ (b₁ ++ (c ++ b₂))) ++ y
regrouped x b₁ c b₂ y e₁ e₂ e₃ e₄ = rw (e₁, e₂, e₃, e₄) (simp append_assoc)

chained : {s a r₁ r₂ : List ℕ} (x b₁ c b₂ y : List ℕ) → s ≡ a ++ y → a ≡ x ++ r₁ → r₁ ≡ b₁ ++ r₂ → r₂ ≡ c ++ b₂ →
    s ≡ x ++ (b₁ ++ (c ++ (b₂ ++ y)))
chained x b₁ c b₂ y e e₁ e₂ e₃ = rw (e, e₁, e₂, e₃) (simp append_assoc)

all_unnamed : (ps : List Parameter) {s : List ℕ} → parameters_of ps s → parameters s
all_unnamed [] m = absurd m
all_unnamed (p ∷ []) m = last (unnamed p m)
all_unnamed (p ∷ q ∷ ps) m =
    let (x, r₁, e₁, body, m₁) = m in
    let (b₁, r₂, e₂, after, m₂) = m₁ in
    let (c, r₃, e₃, semicolon, m₃) = m₂ in
    let (b₂, y, e₄, before, rest) = m₃ in
    more (x ++ (b₁ ++ (c ++ b₂))) y (regrouped x b₁ c b₂ y e₁ e₂ e₃ e₄)
    (x, b₁ ++ (c ++ b₂), refl, unnamed p body, (b₁, c ++ b₂, refl, after, (c, b₂, refl, semicolon, before)))
    (all_unnamed (q ∷ ps) rest)

all_named : {s : List ℕ} → parameters s → (p : Parameter) × (ps : List Parameter) × parameters_of (p ∷ ps) s
all_named (last body) = let (p, m) = with_its_parts body in (p, [], m)
all_named (more a y e m rest) =
    let (x, r₁, e₁, body, m₁) = m in
    let (b₁, r₂, e₂, after, m₂) = m₁ in
    let (c, b₂, e₃, semicolon, before) = m₂ in
    let (p, first) = with_its_parts body in
    let (q, qs, others) = all_named rest in (
      p,
      q ∷ qs,
      (
        x,
        b₁ ++ (c ++ (b₂ ++ y)),
        chained x b₁ c b₂ y e e₁ e₂ e₃,
        first,
        (b₁, c ++ (b₂ ++ y), refl, after, (c, b₂ ++ y, refl, semicolon, (b₂, y, refl, before, others))),
      ),
    )

part_unnamed : (ps : List Parameter) {r : List ℕ} → parameter_part_of ps r → parameter_part r
part_unnamed [] (inl e) = inl e
part_unnamed [] (inr m) =
    let (c, b, e, semicolon, blank) = m in inr (c, b, e, semicolon, (b, [], sym (append-nil b), blank, inl refl))
part_unnamed (p ∷ ps) m =
    let (c, r₁, e, semicolon, m₁) = m in
    let (b, r₂, e₂, before, m₂) = m₁ in
    let (q, b₂, e₃, body, after) = m₂ in
    inr (c, r₁, e, semicolon, (b, r₂, e₂, before, inr (q, b₂, e₃, all_unnamed (p ∷ ps) body, after)))

-- blanks alone after the semicolon
blank_rest : {r₁ r₂ : List ℕ} (b : List ℕ) → r₁ ≡ b ++ r₂ → r₂ ≡ [] → blanks b → blanks r₁
blank_rest b e none h = rw (e, none, append-nil b) h

part_named : {r : List ℕ} → parameter_part r → (ps : List Parameter) × parameter_part_of ps r
part_named (inl e) = ([], inl e)
part_named (inr (c, r₁, e, semicolon, (b, r₂, e₂, before, inl none))) = ([], inr (c, r₁, e, semicolon, blank_rest b e₂ none before))
part_named (inr (c, r₁, e, semicolon, (b, r₂, e₂, before, inr m))) =
    let (q, b₂, e₃, body, after) = m in
    let (p, ps, with-names) = all_named body in
    (p ∷ ps, (c, r₁, e, semicolon, (b, r₂, e₂, before, (q, b₂, e₃, with-names, after))))

pub productions_agree : ProductionsAgree
productions_agree s n = (
  λ m. let (a, r₁, e₁, before, m₁) = m in
      let (x, r₂, e₂, name, m₂) = m₁ in
      let (b, r, e₃, after, part) = m₂ in
      let (ps, with-names) = part_named part in
      (ps, (a, r₁, e₁, before, (x, r₂, e₂, name, (b, r, e₃, after, with-names)))),
  λ k. let (ps, m) = k in
      let (a, r₁, e₁, before, m₁) = m in
      let (x, r₂, e₂, name, m₂) = m₁ in
      let (b, r, e₃, after, part) = m₂ in
      (a, r₁, e₁, before, (x, r₂, e₂, name, (b, r, e₃, after, part_unnamed ps part))),
)

-- What is read.

read_one : {p : Parameter} {a s b : List ℕ} → blanks a → parameter_of p s → blanks b → parameter_in (a ++ (s ++ b)) ≡ p
unfolding parameter_in
read_one {p} {a} {s} {b} front (t, s₁, e₁, (tag-told, tagged), (b₁, s₂, e₂, before, (c, s₃, e₃, equals, (a₁, v, e₄, after, (value-told, valued))))) back =
    go t (rw (e₁, e₂, e₃, equals, e₄)) tag-told ((tag_matches t).1 tagged)
  where
    go : (t : List ℕ) → s ≡ t ++ (b₁ ++ (code "=" ∷ (a₁ ++ v))) → t ≡ p.tag → is_parameter_tag t ≡ true → parameter_in (a ++ (s ++ b)) ≡ p
    go [] e told h = absurd (false≢true (sym no_empty_tag ∙ h))
    go (x ∷ u) e told h =
        let k : Spelled s = record {
          first = x;
          others = u;
          before = b₁;
          after = a₁;
          octets = v;
          whole = e;
          tagged = h;
          blank_before = many_of before;
          blank_after = many_of after;
          valued = many_of valued;
        } in
        let r = trim_end (a₁ ++ (v ++ b)) in
        rw (
          cut_at_equals (many_of front) k (many_of back),
          trim_end_leaves (tag_blankless (x ∷ u) h) (many_of before),
          ← ((pieces_join (code "=") r (split (code "=") r)).0 refl).0,
          trim_leaves (many_of after) (value_blankless (many_of valued)) (many_of back),
          told,
          value-told,
        )

-- a value whose only piece behind the name is a parameter is not blank there
not_blank_alone : (ps : List (List ℕ)) → all is_parameter ps ≡ true → is_blank_alone ps ≡ false
unfolding is_parameter
not_blank_alone [] h = refl
not_blank_alone (p ∷ []) h = not_passed (all is_blank p) (λ e. blank_fails ((all_true is_blank p).0 e))
  where
    blank_fails : Blank p → ⊥
    blank_fails b =
        let none : trim p ≡ [] = rw (append-nil p) at (trim_leaves b all_nil all_nil) in
        false≢true (rw none at h)
not_blank_alone (p ∷ q ∷ ps) h = refl

parted : {s r₁ r₂ r₃ c : List ℕ} (a x b₁ b₂ y b : List ℕ) → s ≡ x ++ r₁ → r₁ ≡ b₁ ++ r₂ → r₂ ≡ c ++ r₃ → r₃ ≡ b₂ ++ y → c ≡ code ";" ∷ [] →
    a ++ (s ++ b) ≡ a ++ (x ++ b₁) ++ (code ";" ∷ (b₂ ++ (y ++ b)))
parted a x b₁ b₂ y b e₁ e₂ e₃ e₄ e = rw (e₁, e₂, e₃, e₄, e) (simp append_assoc)

read_all : (ps : List Parameter) (s : List ℕ) {a b : List ℕ} → parameters_of ps s → blanks a → blanks b → map parameter_in (split (code ";") (a ++ (s ++ b))) ≡ ps
read_all [] s m front back = absurd m
read_all (p ∷ []) s m front back = rw (split_one (code ";") (parameter_free front (unnamed p m) back), read_one front m back)
read_all (p ∷ q ∷ ps) s {a} {b} m front back =
    let (x, r₁, e₁, body, m₁) = m in
    let (b₁, r₂, e₂, after, m₂) = m₁ in
    let (c, r₃, e₃, semicolon, m₃) = m₂ in
    let (b₂, y, e₄, before, rest) = m₃ in
    rw (
      parted a x b₁ b₂ y b e₁ e₂ e₃ e₄ semicolon,
      split_more (code ";") (parameter_free front (unnamed p body) after) (b₂ ++ (y ++ b)),
      read_one front body after,
      read_all (q ∷ ps) y rest before back,
    )

-- behind a first piece f
read_behind : (ps : List Parameter) {f : List ℕ} (r : List ℕ) → Free (code ";") f → parameter_part_of ps r → behind_name (split (code ";") (f ++ r)) ≡ ps
read_behind [] {f} r free (inl none) = rw (none, append-nil f, split_one (code ";") free)
read_behind [] {f} r free (inr (c, b, e, semicolon, blank)) = go e semicolon (many_of blank)
  where
    go : {c b r : List ℕ} → r ≡ c ++ b → c ≡ code ";" ∷ [] → Blank b → behind_name (split (code ";") (f ++ r)) ≡ []
    go {b} e here h = rw (e, here, split_more (code ";") free b, split_one (code ";") (blank_free h), (all_true is_blank b).1 h)
read_behind (p ∷ ps) {f} r free (c, r₁, e, semicolon, (b, r₂, e₂, before, (q, b₂, e₃, body, after))) = go e semicolon e₂ e₃
  where
    go : {r r₁ r₂ c : List ℕ} → r ≡ c ++ r₁ → c ≡ code ";" ∷ [] → r₁ ≡ b ++ r₂ → r₂ ≡ q ++ b₂ → behind_name (split (code ";") (f ++ r)) ≡ p ∷ ps
    go e here e₂ e₃ =
        rw (
          e,
          here,
          e₂,
          e₃,
          split_more (code ";") free (b ++ (q ++ b₂)),
          not_blank_alone (split (code ";") (b ++ (q ++ b₂))) (pieces (all_unnamed (p ∷ ps) body) before after),
        )
        (read_all (p ∷ ps) q body before after)

read : (s n : List ℕ) (ps : List Parameter) → value_of n ps s → parameters_in s ≡ ps
unfolding parameters_in
read s n ps (a, r₁, e₁, before, (x, r₂, e₂, (same, name), (b, r, e₃, after, part))) = go e₁ e₂ e₃
  where
    free : Free (code ";") (a ++ (x ++ b))
    free = All-join (blank_free (many_of before)) (All-join (domain_name_free ((domain_name_matches x).1 name)) (blank_free (many_of after)))

    go : {s r₁ r₂ : List ℕ} → s ≡ a ++ r₁ → r₁ ≡ x ++ r₂ → r₂ ≡ b ++ r → behind_name (split (code ";") s) ≡ ps
    go {s} e₁ e₂ e₃ = let whole : s ≡ a ++ (x ++ b) ++ r = rw (e₁, e₂, e₃) (simp append_assoc) in rw whole (read_behind ps r free part)

pub parameters_by_the_grammar : ParametersByTheGrammar
parameters_by_the_grammar s n ps = (
  λ k. let (ps', m) = (productions_agree s n).0 (((value_is_the_grammar s).0 n).0 k.0) in
      rw (sym (read s n ps' m) ∙ k.1) at m,
  λ m. (((value_is_the_grammar s).0 n).1 ((productions_agree s n).1 (ps, m)), read s n ps m),
)
