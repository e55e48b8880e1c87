-- The first record that clashes with one before it.
use Rattle.std.proofs.lemmas.Option.{same_Some, none-some}
use Rattle.std.specs.Prelude.{Option, None, Some}
use Prim.Native.Nat.{ℕ, suc, ◌+◌, ◌<◌}
use native.Mathlib.Omega.{arith}
use mathlib.Core.Path.{◌≡◌, refl, sym, ap, ◌∙◌}
use mathlib.Core.Logic.{◌↔◌, ◌⊎◌, inl, inr, ⊎_elim}
use mathlib.Core.Bool.{Bool, true, false, cond, ◌&&◌, ◌||◌, and-eq-true_iff, false≢true}
use mathlib.Core.List.{List, [], ◌∷◌, ◌++◌, nil≢cons, cons≢nil, head-eq_of_cons-eq, tail-eq_of_cons-eq}
use lib.ListN.{length}
use Rattle.spec_octets.specs.Lists.{any, Any, any_here, any_there}
use Rattle.spec_octets.proofs.ListLaws.{or_eq_true, true_or_false}
use Rattle.spec_name.specs.Names.{same_name}
use Rattle.spec_name.proofs.WholeNames.{whole_names}
use Rattle.spec_record.specs.Records.{Record, is_caa, is_alias, counts, clash, clashes, clash_from}
use Rattle.spec_record.specs.Theorems.{IsCaa, IsAlias, Clash, ClashAt}
use Rattle.spec_record.proofs.KindLaws.{caa_exactly, alias_exactly}

-- of two records that count, where one is an alias: a and b say whether they are aliases, c and d whether they are CAA records
kinds :
    {A B C D : Type 0} (a b c d : Bool) → (a ≡ true) ↔ A → (b ≡ true) ↔ B → (c ≡ true) ↔ C → (d ≡ true) ↔ D → c || a ≡ true →
    (((d || b) ≡ true) × ((a || b) ≡ true)) ↔ ((A × D) ⊎ (C × B) ⊎ (A × B))
kinds {A} {B} {C} {D} a b c d is-a is_b is_c is-d first = (λ h. told ((or_eq_true d b).0 h.0) ((or_eq_true a b).0 h.1) ((or_eq_true c a).0 first), passed)
  where
    told : (d ≡ true) ⊎ (b ≡ true) → (a ≡ true) ⊎ (b ≡ true) → (c ≡ true) ⊎ (a ≡ true) → (A × D) ⊎ (C × B) ⊎ (A × B)
    told (inl e) (inl f) g = inl (is-a.0 f, is-d.0 e)
    told (inr e) (inl f) g = inr (inr (is-a.0 f, is_b.0 e))
    told e (inr f) (inl g) = inr (inl (is_c.0 g, is_b.0 f))
    told e (inr f) (inr g) = inr (inr (is-a.0 g, is_b.0 f))

    passed : (A × D) ⊎ (C × B) ⊎ (A × B) → ((d || b) ≡ true) × ((a || b) ≡ true)
    passed (inl (x, y)) = ((or_eq_true d b).1 (inl (is-d.1 y)), (or_eq_true a b).1 (inl (is-a.1 x)))
    passed (inr (inl (x, y))) = ((or_eq_true d b).1 (inr (is_b.1 y)), (or_eq_true a b).1 (inr (is_b.1 y)))
    passed (inr (inr (x, y))) = ((or_eq_true d b).1 (inr (is_b.1 y)), (or_eq_true a b).1 (inr (is_b.1 y)))

pub clash_exactly : (r p : Record) → counts r ≡ true → (counts p && clash r p ≡ true) ↔ Clash r p
clash_exactly r p first = (
  λ e. let (second, f) = (and-eq-true_iff (counts p) (clash r p)).0 e in
      let (alias, owner) = (and-eq-true_iff (is_alias r.type r.class || is_alias p.type p.class) (same_name r.owner p.owner)).0 f in
      ((whole_names.0 r.owner p.owner).0 owner, both.0 (second, alias)),
  λ h. let (second, alias) = both.1 h.1 in
      (and-eq-true_iff (counts p) (clash r p)).1 (second, (and-eq-true_iff _ _).1 (alias, (whole_names.0 r.owner p.owner).1 h.0)),
)
  where
    both :
        ((counts p ≡ true) × ((is_alias r.type r.class || is_alias p.type p.class) ≡ true))
        ↔ ((IsAlias r × IsCaa p) ⊎ (IsCaa r × IsAlias p) ⊎ (IsAlias r × IsAlias p))
    both =
        kinds _ _ _ _ (alias_exactly r.type r.class) (alias_exactly p.type p.class) (caa_exactly r.type r.class)
        (caa_exactly p.type p.class) first

-- what clashes counts
clash_counts : (r p : Record) → Clash r p → counts r ≡ true
clash_counts r p (owner, kind) = (or_eq_true _ _).1 (go kind)
  where
    go : (IsAlias r × IsCaa p) ⊎ (IsCaa r × IsAlias p) ⊎ (IsAlias r × IsAlias p) → (is_caa r.type r.class ≡ true) ⊎ (is_alias r.type r.class ≡ true)
    go (inl (x, y)) = inr ((alias_exactly r.type r.class).1 x)
    go (inr (inl (x, y))) = inl ((caa_exactly r.type r.class).1 x)
    go (inr (inr (x, y))) = inr ((alias_exactly r.type r.class).1 x)

nowhere : {A : Type 0} {P : A → Type 0} {xs : List A} → xs ≡ [] → Any P xs → ⊥
nowhere e (any_here h) = cons≢nil e
nowhere e (any_there h) = cons≢nil e

-- a test that decides a property passes for some element exactly when the property holds of one
any_exactly : {A : Type 0} {P : A → Type 0} (p : A → Bool) → ((x : A) → (p x ≡ true) ↔ P x) → (xs : List A) → (any p xs ≡ true) ↔ Any P xs
any_exactly p law [] = (λ e. absurd (false≢true e), λ h. absurd (nowhere refl h))
any_exactly {A} {P} p law (x ∷ xs) = (
  λ e. ⊎_elim (λ h. any_here ((law x).0 h)) (λ h. any_there ((any_exactly p law xs).0 h)) ((or_eq_true (p x) (any p xs)).0 e),
  λ h. (or_eq_true (p x) (any p xs)).1 (split h (any_exactly p law xs).1),
)
  where
    split : Any P (x ∷ xs) → (Any P xs → any p xs ≡ true) → (p x ≡ true) ⊎ (any p xs ≡ true)
    split (any_here h) rest = inl ((law x).1 h)
    split (any_there h) rest = inr (rest h)

pub clashes_exactly : (r : Record) (before : List Record) → (clashes r before ≡ true) ↔ Any (Clash r) before
unfolding clashes
clashes_exactly r before = go (true_or_false (counts r))
  where
    test : Record → Bool
    test p = counts p && clash r p

    some_counts : {xs : List Record} → Any (Clash r) xs → counts r ≡ true
    some_counts (any_here {x} h) = clash_counts r x h
    some_counts (any_there h) = some_counts h

    go : (counts r ≡ true) ⊎ (counts r ≡ false) → (counts r && any test before ≡ true) ↔ Any (Clash r) before
    go (inl e) = rw e (any_exactly test (λ p. clash_exactly r p e) before)
    go (inr e) = (λ h. absurd (false≢true (sym e ∙ ((and-eq-true_iff (counts r) (any test before)).0 h).0)), λ h. absurd (false≢true (sym e ∙ some_counts h)))

-- record j of rs clashes with a record before it, in rs or among `before`
abbrev Hit : List Record → List Record → ℕ → Type 0
Hit before rs j =
    (mid : List Record) × (r : Record) × (after : List Record) × (rs ≡ mid ++ (r ∷ after)) × (length mid ≡ j)
    × (Any (Clash r) mid ⊎ Any (Clash r) before)

module _ (before : List Record) (r : Record) (rs : List Record) where
  -- the first record, or a later one
  hit_parts : (j : ℕ) → Hit before (r ∷ rs) j → ((j ≡ 0) × Any (Clash r) before) ⊎ ((i : ℕ) × (j ≡ suc i) × Hit (r ∷ before) rs i)
  hit_parts j ([], q, after, e, l, inl h) = absurd (nowhere refl h)
  hit_parts j ([], q, after, e, l, inr h) = inl (omega arith, rw (← head-eq_of_cons-eq e) at h)
  hit_parts j (m ∷ mid, q, after, e, l, h) = inr (length mid, omega arith, (mid, q, after, tail-eq_of_cons-eq e, refl, moved h))
    where
      moved : Any (Clash q) (m ∷ mid) ⊎ Any (Clash q) before → Any (Clash q) mid ⊎ Any (Clash q) (r ∷ before)
      moved (inl (any_here c)) = inr (any_here (rw (← head-eq_of_cons-eq e) at c))
      moved (inl (any_there c)) = inl c
      moved (inr c) = inr (any_there c)

  hit_later : (i : ℕ) → Hit (r ∷ before) rs i → Hit before (r ∷ rs) (suc i)
  hit_later i (mid, q, after, e, l, h) = (r ∷ mid, q, after, ap (◌∷◌ r) e, ap suc l, moved h)
    where
      moved : Any (Clash q) mid ⊎ Any (Clash q) (r ∷ before) → Any (Clash q) (r ∷ mid) ⊎ Any (Clash q) before
      moved (inl c) = inl (any_there c)
      moved (inr (any_here c)) = inl (any_here c)
      moved (inr (any_there c)) = inr c

-- what `clash_from` finds
abbrev Finds : ℕ → (ℕ → Type 0) → Option ℕ → Type 0
Finds k H None = (j : ℕ) → H j → ⊥
Finds k H (Some n) = (j : ℕ) × (n ≡ k + j) × H j × ((i : ℕ) → i < j → H i → ⊥)

finds : (k : ℕ) (before rs : List Record) → Finds k (Hit before rs) (clash_from k before rs)
finds k before [] = λ j h. nothing h.0 h.1 h.2 h.3
  where
    nothing : (mid : List Record) (r : Record) (after : List Record) → [] ≡ mid ++ (r ∷ after) → ⊥
    nothing [] r after e = nil≢cons e
    nothing (m ∷ mid) r after e = nil≢cons e
finds k before (r ∷ rs) =
    go (clashes r before) (clashes_exactly r before) (clash_from (suc k) (r ∷ before) rs) (finds (suc k) (r ∷ before) rs)
  where
    go :
        (t : Bool) → (t ≡ true) ↔ Any (Clash r) before → (o : Option ℕ) → Finds (suc k) (Hit (r ∷ before) rs) o →
        Finds k (Hit before (r ∷ rs)) (cond t (Some k) o)
    go true law o rest = (0, omega arith, ([], r, rs, refl, refl, inr (law.0 refl)), λ i l h. omega arith)
    go false law None rest = λ j h. ⊎_elim (λ a. false≢true (law.1 a.1)) (λ a. rest a.0 a.2) (hit_parts before r rs j h)
    go false law (Some n) (j, e, hit, lowest) = (
      suc j,
      omega arith,
      hit_later before r rs j hit,
      λ i l h. ⊎_elim (λ a. false≢true (law.1 a.1)) (λ a. lowest a.0 (omega (arith, a.1)) a.2) (hit_parts before r rs i h),
    )

hit_is : (rs : List Record) (k : ℕ) → Hit [] rs k ↔ ClashAt rs k
hit_is rs k = (
  λ (mid, r, after, e, l, h). (mid, r, after, e, l, ⊎_elim (λ c. c) (λ c. absurd (nowhere refl c)) h),
  λ (before, r, after, e, l, h). (before, r, after, e, l, inl h),
)

module _ (rs : List Record) where
  pub clash_none : (clash_from 0 [] rs ≡ None) ↔ ((k : ℕ) → ClashAt rs k → ⊥)
  clash_none = (λ e k c. (rw e at (finds 0 [] rs)) k ((hit_is rs k).1 c), λ free. go (clash_from 0 [] rs) (finds 0 [] rs) free)
    where
      go : (o : Option ℕ) → Finds 0 (Hit [] rs) o → ((k : ℕ) → ClashAt rs k → ⊥) → o ≡ None
      go None f free = refl
      go (Some n) f free = absurd (free f.0 ((hit_is rs f.0).0 f.2))

  pub clash_some : (k : ℕ) → (clash_from 0 [] rs ≡ Some k) ↔ (ClashAt rs k × ((j : ℕ) → j < k → ClashAt rs j → ⊥))
  clash_some k = (told (clash_from 0 [] rs) (finds 0 [] rs), λ h. found (clash_from 0 [] rs) (finds 0 [] rs) h.0 h.1)
    where
      told : (o : Option ℕ) → Finds 0 (Hit [] rs) o → o ≡ Some k → ClashAt rs k × ((j : ℕ) → j < k → ClashAt rs j → ⊥)
      told None f e = absurd (none-some _ e)
      told (Some n) (j, l, h, lowest) e =
          let same : j ≡ k = omega (arith, same_Some _ _ e) in
          (rw same at ((hit_is rs j).0 h), λ i less c. lowest i (omega arith) ((hit_is rs i).1 c))

      found : (o : Option ℕ) → Finds 0 (Hit [] rs) o → ClashAt rs k → ((j : ℕ) → j < k → ClashAt rs j → ⊥) → o ≡ Some k
      found None f c lowest = absurd (f k ((hit_is rs k).1 c))
      found (Some n) (j, l, h, low) c lowest =
          let least : j < k → ⊥ = λ less. lowest j less ((hit_is rs j).0 h) in
          let first : k < j → ⊥ = λ less. low k less ((hit_is rs k).1 c) in
          ap Some (omega arith)
