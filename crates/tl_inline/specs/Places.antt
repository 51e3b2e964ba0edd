-- Where keys stand in a list, by their digests. No public clause cites this module.
use Rattle.std.specs.Prelude.{◌≡◌, ℕ, Bool, true, false, ◌==◌, cond, List, slice_get, Option, Some, None}
use Rattle.std.specs.Option.{option_map_or}
use Rattle.std.specs.Ordering.{nat_cmp, ordering_then, is_eq}
use Rattle.std.specs.Map.{lookup}
use Rattle.std.specs.BTreeMap.{BTreeMap}
use Rattle.tl_inline.specs.Digest.{Digest, digest_of}
use Rattle.tl_inline.specs.declared.inline.hashmap.heap.index.Place.{Place}
use Rattle.tl_inline.specs.declared.inline.hashmap.heap.index.Place.TheVariants.{Alone, Several}

-- whether two digests are the same
abbrev pub is_same : Digest → Digest → Bool
is_same x y = is_eq (ordering_then (nat_cmp x.0 y.0) (nat_cmp x.1 y.1))

-- what some notes say of a digest
abbrev pub note_of : List (Digest × Place) → Digest → Option Place
note_of notes digest = lookup (is_same digest) notes

-- whether a key of which this is noted may stand at i
abbrev pub allows : Option Place → ℕ → Bool
allows None i = false
allows (Some Several) i = true
allows (Some (Alone at)) i = at == i

-- what is noted of a digest once a new key with it stands at i
abbrev pub with_key : Option Place → ℕ → Option Place
with_key None i = Some (Alone i)
with_key (Some place) i = Some Several

-- what is noted once the key that stands alone has gone
abbrev pub without_alone : Option Place → Option Place
without_alone None = None
without_alone (Some Several) = Some Several
without_alone (Some (Alone at)) = None

-- what is noted once the key that stands alone has gone to i
abbrev pub moved_to : Option Place → ℕ → Option Place
moved_to None i = None
moved_to (Some Several) i = Some Several
moved_to (Some (Alone at)) i = Some (Alone i)

-- `new` says w of the digest, and of all others what `old` says
abbrev pub Notes : (Digest → Option Place) → (Digest → Option Place) → Digest → Option Place →
    Type 0
Notes old new digest w = (d : Digest) → new d ≡ cond (is_same digest d) w (old d)

-- each key may stand where it does
abbrev pub AllowsAll : {K : Type 0} → (K → Digest) → (Digest → Option Place) → List K → Type 0
AllowsAll {K} digest note keys =
    (i : ℕ) (k : K) → slice_get keys i ≡ Some k → allows (note (digest k)) i ≡ true

-- what is noted of the digest of each key lets it stand where it does
abbrev pub AllowsKeys : {K : Type 0} → (K → List (List ℕ)) → BTreeMap Digest Place → List K → Type 0
AllowsKeys input places keys = AllowsAll (λ k. digest_of (input k)) (note_of places.entries) keys

-- each key that passes the test may stand where it does, where this is noted of it
abbrev pub AllowsKey : {K : Type 0} → (K → Bool) → Option Place → List K → Type 0
AllowsKey {K} test note keys =
    (i : ℕ) (k : K) → slice_get keys i ≡ Some k → test k ≡ true → allows note i ≡ true

-- whether the pair at i has a key that passes the test
abbrev pub passes_at : {K V : Type 0} → (K → Bool) → List (K × V) → ℕ → Bool
passes_at test pairs i = option_map_or (λ p. test p.0) (slice_get pairs i) false
