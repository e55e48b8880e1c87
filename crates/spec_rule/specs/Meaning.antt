-- The requirements' "rule of issue" (RFC 8659 sections 3 and 4) as statements about records, without the search. The theorems use these.
use Rattle.std.specs.Prelude.{ℕ, suc, ◌≤◌, ◌<◌, ◌≡◌, ◌≢◌, ◌⊎◌, Bool, true, false, List, [], ◌∷◌, ◌++◌, map, length, drop}
use Rattle.spec_limits.specs.Limits.{max_aliases}
use Rattle.spec_octets.specs.Lists.{All, Any, First, Selects}
use Rattle.spec_octets.specs.Octets.{lowered}
use Rattle.spec_name.specs.Names.{Name, wire, GoodName}
use Rattle.spec_request.specs.Request.{is_wildcard, base}
use Rattle.spec_issuer.specs.Issuer.{WellFormed}
use Rattle.spec_record.specs.declared.PropertyTag.{PropertyTag}
use Rattle.spec_record.specs.declared.PropertyTag.TheVariants.{Issue, IssueWild, Unknown}
use Rattle.spec_record.specs.Property.{Property, wire_property, is_critical, tag_of}
use Rattle.spec_record.specs.Records.{Record}
use Rattle.spec_record.specs.Kinds.{OfKind}
use Rattle.spec_value.specs.Parameters.{Parameter}
use Rattle.spec_value.specs.Productions.{value_of}
use Rattle.spec_applicant.specs.Applicant.{Applicant}
use Rattle.spec_applicant.specs.Meaning.{Admits}
use Rattle.spec_rule.specs.Aliases.{Alias, as_alias}
use Rattle.spec_rule.specs.RelevantSet.{CaaRecord, Book, Lookup, empty, found, endless, lookup, relevant_set}

-- cs are the CAA records of rs, in their order, each with its number. The first record of rs has the number k.
pub data CaaRecordsOf : ℕ → List Record → List CaaRecord → Type 0 where
  at_end : {k : ℕ} → CaaRecordsOf k [] []
  is_caa_record : {k : ℕ} {r : Record} {rs : List Record} {cs : List CaaRecord} (p : Property) →
      r.type ≡ 257 → r.class ≡ 1 → r.rdata ≡ wire_property p → 1 ≤ length p.tag → CaaRecordsOf (suc k) rs cs →
      CaaRecordsOf k (r ∷ rs) (record { number = k; owner = r.owner; property = p } ∷ cs)
  is_other : {k : ℕ} {r : Record} {rs : List Record} {cs : List CaaRecord} →
      ((r.type ≡ 257) × (r.class ≡ 1) → ⊥) → CaaRecordsOf (suc k) rs cs → CaaRecordsOf k (r ∷ rs) cs

-- The same for aliases: type 5 and class 1, and the data is one valid name.
abbrev pub AliasesOf : ℕ → List Record → List Alias → Type 0
AliasesOf = OfKind 5 1 (λ d t. (d ≡ wire t) × GoodName t) as_alias

-- The owner of the record is x: the whole name, ignoring case.
abbrev pub OwnedBy : Name → CaaRecord → Type 0
OwnedBy x r = map lowered r.owner ≡ map lowered x

-- The same for an alias.
abbrev pub AliasOf : Name → Alias → Type 0
AliasOf x a = map lowered a.owner ≡ map lowered x

-- Following k aliases leads from x to y. In an accepted book a name has at most one alias, so the first is the only one.
pub data Leads (al : List Alias) : ℕ → Name → Name → Type 0 where
  arrived : {x : Name} → Leads al 0 x x
  onward : {k : ℕ} {x y : Name} {a : Alias} → First (AliasOf x) al a → Leads al k a.target y → Leads al (suc k) x y

-- At most 8 aliases lead from x to y, and y has none.
abbrev pub EndsAt : List Alias → Name → Name → Type 0
EndsAt al x y = (k : ℕ) × (k ≤ max_aliases) × Leads al k x y × All (λ a. AliasOf y a → ⊥) al

-- The lookup at x without its first k labels gives l, which is not empty. At each name before that it is empty.
abbrev pub NearestAt : Book → Name → ℕ → Lookup → Type 0
NearestAt book x k l =
    (k < length x) × (lookup book (drop k x) ≡ l) × (l ≢ empty) × ((j : ℕ) → j < k → lookup book (drop j x) ≡ empty)

abbrev pub Tagged : PropertyTag → CaaRecord → Type 0
Tagged t r = tag_of r.property.tag ≡ t

-- Step 2: a critical record with an unknown tag.
abbrev pub UnknownCriticalRecord : CaaRecord → Type 0
UnknownCriticalRecord r = (is_critical r.property ≡ true) × Tagged Unknown r

-- Step 3: r governs X (false) or *.X (true), given the relevant set rs.
abbrev pub Governs : Bool → List CaaRecord → CaaRecord → Type 0
Governs false rs r = Tagged Issue r
Governs true rs r = Tagged IssueWild r ⊎ (Tagged Issue r × All (λ q. Tagged IssueWild q → ⊥) rs)

-- Step 4: the value has a well-formed issuer domain name, d is that name in lower case, and the parameters of the value admit the applicant.
abbrev pub Grants : Applicant → List ℕ → CaaRecord → Type 0
Grants who d r =
    (n : List ℕ) × (ps : List Parameter) × value_of n ps r.property.value × WellFormed n × (lowered n ≡ d) × Admits who ps

module _ (book : Book) (n : Name) where
  -- rs is the relevant set of the requested name n.
  abbrev pub Relevant : List CaaRecord → Type 0
  Relevant rs = relevant_set book (base n) ≡ found rs

  abbrev pub NoneCritical : List CaaRecord → Type 0
  NoneCritical rs = All (λ r. UnknownCriticalRecord r → ⊥) rs

  abbrev pub Unrestricted : Type 0
  Unrestricted =
      (relevant_set book (base n) ≡ empty)
      ⊎ ((rs : List CaaRecord) × Relevant rs × NoneCritical rs × All (λ r. Governs (is_wildcard n) rs r → ⊥) rs)

  abbrev pub GrantedTo : Applicant → List ℕ → Type 0
  GrantedTo who d =
      (rs : List CaaRecord) × Relevant rs × NoneCritical rs × Any (λ r. Governs (is_wildcard n) rs r × Grants who (lowered d) r) rs

  -- Step 5: the issuer d may issue for n, to the applicant.
  abbrev pub PermittedTo : Applicant → List ℕ → Type 0
  PermittedTo who d = Unrestricted ⊎ GrantedTo who d

  -- r is the number of the first critical record with an unknown tag in the relevant set.
  abbrev pub ForbiddenBy : ℕ → Type 0
  ForbiddenBy r = (rs : List CaaRecord) × (c : CaaRecord) × Relevant rs × First UnknownCriticalRecord rs c × (c.number ≡ r)

  -- r is the number of the first governing record, and the relevant set has no critical record with an unknown tag.
  abbrev pub GovernedFrom : ℕ → Type 0
  GovernedFrom r =
      (rs : List CaaRecord) × (c : CaaRecord) × Relevant rs × NoneCritical rs × First (Governs (is_wildcard n) rs) rs c × (c.number ≡ r)

  -- gs are all governing records of n, in their order.
  abbrev pub GoverningRecords : List CaaRecord → Type 0
  GoverningRecords gs = (rs : List CaaRecord) × Relevant rs × NoneCritical rs × Selects (Governs (is_wildcard n) rs) rs gs

  -- The aliases of X, or of the first name above it with anything but an empty lookup, do not end. r is the number of the first of them.
  abbrev pub UnresolvedFrom : ℕ → Type 0
  UnresolvedFrom r = relevant_set book (base n) ≡ endless r

  -- What decides is found u labels up: at X without its first u labels. Aliases are followed from there.
  abbrev pub DecidedAt : ℕ → Type 0
  DecidedAt u = (l : Lookup) × NearestAt book (base n) u l

-- n is name number k, P holds of every name before it, and not of n.
abbrev pub LowestNot : (Name → Type 0) → List Name → ℕ → Name → Type 0
LowestNot P ns k n = (before after : List Name) × (ns ≡ before ++ (n ∷ after)) × (length before ≡ k) × All P before × (P n → ⊥)

-- a comes before b in the list.
abbrev pub Before : {A : Type 0} → A → A → List A → Type 0
Before {A} a b xs = (p q r : List A) × (xs ≡ p ++ (a ∷ (q ++ (b ∷ r))))

-- Among gs, the first record that grants a comes before the first that grants b.
abbrev pub GrantedBefore : Applicant → List CaaRecord → List ℕ → List ℕ → Type 0
GrantedBefore who gs a b =
    (p q r : List CaaRecord) × (g h : CaaRecord) × (gs ≡ p ++ (g ∷ (q ++ (h ∷ r)))) × Grants who a g × Grants who b h
    × All (λ x. Grants who a x → ⊥) p × All (λ x. Grants who b x → ⊥) (p ++ (g ∷ q))
