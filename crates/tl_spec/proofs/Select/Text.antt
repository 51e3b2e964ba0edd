-- Chains and whole texts by cases are those of the function.
use Rattle.std.proofs.Common.{◌≡◌, ◌≢◌, ◌⊎◌, ◌↔◌, ℕ, zero, suc, ◌≤◌, ◌<◌, ◌+◌, ◌==◌, Bool, true, false, List, [], ◌∷◌, ◌++◌, length, Option, Some, None, refl, ap, sym, ◌∙◌, subst, arith, inl, inr, if◌then◌else◌, option_map}
use Rattle.std.specs.Prelude.{option_and_then}
use Rattle.std.proofs.lemmas.Bool.{cases_Bool, eqb-true}
use Rattle.std.proofs.lemmas.List.{append-nil, length-append}
use Rattle.tl_spec.specs.Lex.ByteClass.{is_ident}
use Rattle.tl_spec.specs.Lex.Runs.{drop_while}
use Rattle.tl_spec.specs.Lex.Grammar.{Stops}
use Rattle.tl_spec.specs.Select.Selector.{Selector, And, Descendant, Parent}
use Rattle.tl_spec.specs.Select.Meaning.{has_combinator}
use Rattle.tl_spec.specs.Select.Text.{AreSpaces, no_space, one_space, OpGives, equal, has_part, starts, ends, contains, SimpleStands, id_part, class_part, all_part, tag_part, key_part, value_part, JointStands, touching, spaced, stepped, ChainStands, first_part, next_part, SpacedChainStands, spaced_chain, ChainsStand, first_chain, next_chain, IsSelectorText, StandsAlone, alone}
use Rattle.tl_spec.specs.Lex.ByteClass.{is_space}
use Rattle.tl_spec.specs.Select.Reading.{simple_at, Separator, Comma, Step, Spaces, Touch, starts_with_space, separator_by, separator_at, Next, End, Bad, Part, part_by, next_by, next_at, parts_by, parts_within, parts_at, combine, push_complex, list_after, complex_after, nest, selector_at}
use Rattle.tl_spec.proofs.Lex.Bytes.{not_this, drop_while-yes, drop_while-no}
use Rattle.tl_spec.proofs.Lex.Grammar.{if_no}
use Rattle.tl_spec.proofs.Select.Parts.{if_is, bind-some, map-some, none_some, of_pair, run-first, simple-some, simple-is, simple-lt}

-- spaces

-- what stands before the first byte that is no space
pub spaces_of : (s : List ℕ) → (spaces : List ℕ) × AreSpaces spaces × (s ≡ spaces ++ drop_while is_space s)
spaces_of [] = ([], no_space, refl)
spaces_of (b ∷ s) =
    elim (cases_Bool (is_space b)) [
      | inl y ↦ (let i = spaces_of s in
          (32 ∷ i.0, one_space i.1, ap (λ (c : ℕ). c ∷ s) (eqb-true b 32 y) ∙ ap (λ (t : List ℕ). 32 ∷ t) (i.2 ∙ ap (λ (t : List ℕ). i.0 ++ t) (sym (drop_while-yes is_space b s y)))))
      | inr n ↦ ([], no_space, sym (drop_while-no is_space (b ∷ s) n))
    ]

pub drop_while-spaces : {spaces : List ℕ} (s : List ℕ) → AreSpaces spaces → drop_while is_space (spaces ++ s) ≡ drop_while is_space s
drop_while-spaces s no_space = refl
drop_while-spaces s (one_space {s = spaces} h) = drop_while-yes is_space 32 (spaces ++ s) refl ∙ drop_while-spaces s h

-- s begins with none of space, `,` and `>`
abbrev pub BeginsPart : List ℕ → Type 0
BeginsPart s = (b : ℕ) × (t : List ℕ) × (s ≡ b ∷ t) × ((b == 32) ≡ false) × ((b == 44) ≡ false) × ((b == 62) ≡ false)

pub begins-part : {s rest : List ℕ} {e : Selector} → SimpleStands s e rest → BeginsPart s
begins-part (id_part {s = s} r) = (35, s, refl, refl, refl, refl)
begins-part (class_part {s = s} r) = (46, s, refl, refl, refl, refl)
begins-part (all_part {rest = rest}) = (42, rest, refl, refl, refl, refl)
begins-part (tag_part n r) = let f = run-first n r in (f.0, f.1, f.2, not_this is_ident f.0 32 f.3 refl, not_this is_ident f.0 44 f.3 refl, not_this is_ident f.0 62 f.3 refl)
begins-part (key_part {s = s} r) = (91, s, refl, refl, refl, refl)
begins-part (value_part {s = s} r g w) = (91, s, refl, refl, refl, refl)

pub drop_while-part : {s rest : List ℕ} {e : Selector} → SimpleStands s e rest → drop_while is_space s ≡ s
drop_while-part {s} h = let b = begins-part h in drop_while-no is_space s (subst (Stops is_space) (sym b.2) b.3)

-- links: what is read, from what stands

link-part : (v : Bool) {s : List ℕ} → BeginsPart s → separator_by v s ≡ Some ((if v then Spaces else Touch), s)
link-part v b =
    subst (λ (s : List ℕ). separator_by v s ≡ Some ((if v then Spaces else Touch), s)) (sym b.2)
    (if_no _ _ _ b.4 ∙ if_no _ _ _ b.5)

touch-is : {s : List ℕ} → BeginsPart s → separator_at s ≡ Some (Touch, s)
touch-is {s} b =
    let same : drop_while is_space s ≡ s = drop_while-no is_space s (subst (Stops is_space) (sym b.2) b.3) in
    let no : starts_with_space s ≡ false = ap starts_with_space b.2 ∙ b.3 in
    (λ i. separator_by (no i) (same i)) ∙ link-part false b

spaced-is : {spaces s : List ℕ} → AreSpaces spaces → BeginsPart s → separator_at (32 ∷ spaces ++ s) ≡ Some (Spaces, s)
spaced-is {spaces} {s} h b =
    let same : drop_while is_space s ≡ s = drop_while-no is_space s (subst (Stops is_space) (sym b.2) b.3) in
    ap (separator_by true) (drop_while-spaces s (one_space h) ∙ same) ∙ link-part true b

byte-is : {before : List ℕ} (b : ℕ) (t : List ℕ) (link : Separator) → AreSpaces before → (b == 32) ≡ false →
    ((v : Bool) → separator_by v (b ∷ t) ≡ Some (link, drop_while is_space t)) → separator_at (before ++ b ∷ t) ≡ Some (link, drop_while is_space t)
byte-is {before} b t link h n by =
    ap (separator_by (starts_with_space (before ++ b ∷ t))) (drop_while-spaces (b ∷ t) h ∙ drop_while-no is_space (b ∷ t) n) ∙ by (starts_with_space (before ++ b ∷ t))

comma-is : {before : List ℕ} (t : List ℕ) → AreSpaces before → separator_at (before ++ 44 ∷ t) ≡ Some (Comma, drop_while is_space t)
comma-is t h = byte-is 44 t Comma h refl (λ _. refl)

step-is : {before : List ℕ} (t : List ℕ) → AreSpaces before → separator_at (before ++ 62 ∷ t) ≡ Some (Step, drop_while is_space t)
step-is t h = byte-is 62 t Step h refl (λ _. refl)

-- a joint, and the part after it
pub joint-next : {m n rest : List ℕ} {gives : Selector → Selector → Selector} {e : Selector} → JointStands m gives n → SimpleStands n e rest →
    (link : Separator) × (next_at m ≡ Part link e rest) × ((before : Option Selector) (chain : Selector) → (list_after link before chain ≡ before) × (complex_after link chain e ≡ gives chain e))
joint-next touching h = (Touch, rw (touch-is (begins-part h)) (rw (simple-is h) refl), λ _ _. (refl, refl))
joint-next (spaced k) h = (Spaces, rw (spaced-is k (begins-part h)) (rw (simple-is h) refl), λ _ _. (refl, refl))
joint-next (stepped {after = after} {rest = n} k l) h =
    (Step, rw (step-is (after ++ n) k) (rw (drop_while-spaces n l ∙ drop_while-part h) (rw (simple-is h) refl)), λ _ _. (refl, refl))

-- links: what stands, from what is read

-- what stands between a part and the next one
pub data LinkStands : List ℕ → Separator → List ℕ → Type 0 where
  comma_link : {before after rest : List ℕ} → AreSpaces before → AreSpaces after → LinkStands (before ++ 44 ∷ (after ++ rest)) Comma rest
  joint_link : {m rest : List ℕ} {link : Separator} → link ≢ Comma → JointStands m (combine link) rest → LinkStands m link rest

byte-stands : (s : List ℕ) (b n : ℕ) (t : List ℕ) → drop_while is_space s ≡ b ∷ t → (b == n) ≡ true →
    (before after : List ℕ) × AreSpaces before × AreSpaces after × (s ≡ before ++ n ∷ (after ++ drop_while is_space t))
byte-stands s b n t e h =
    let i = spaces_of s in
    let j = spaces_of t in
    (i.0, j.0, i.1, j.1, i.2 ∙ ap (λ (u : List ℕ). i.0 ++ u) (e ∙ (λ k. eqb-true b n h k ∷ j.2 k)))

touch-stands : (s : List ℕ) (b : ℕ) (t : List ℕ) → drop_while is_space s ≡ b ∷ t → LinkStands s (if starts_with_space s then Spaces else Touch) (b ∷ t)
touch-stands [] b t e = cc
touch-stands (c ∷ s) b t e =
    elim (cases_Bool (is_space c)) [
      | inl y ↦ (let i = spaces_of s in
          let f : c ∷ s ≡ 32 ∷ i.0 ++ b ∷ t = (λ k. eqb-true c 32 y k ∷ i.2 k) ∙ ap (λ (u : List ℕ). 32 ∷ i.0 ++ u) (sym (drop_while-yes is_space c s y) ∙ e) in
          let here : LinkStands (c ∷ s) Spaces (b ∷ t) = joint_link (λ x. cc) (subst (λ (u : List ℕ). JointStands u Descendant (b ∷ t)) (sym f) (spaced i.1)) in
          subst (λ (v : Bool). LinkStands (c ∷ s) (if v then Spaces else Touch) (b ∷ t)) (sym y) here)
      | inr n ↦ (let f : c ∷ s ≡ b ∷ t = sym (drop_while-no is_space (c ∷ s) n) ∙ e in
          let here : LinkStands (c ∷ s) Touch (b ∷ t) = joint_link (λ x. cc) (subst (λ (u : List ℕ). JointStands u And (b ∷ t)) (sym f) touching) in
          subst (λ (v : Bool). LinkStands (c ∷ s) (if v then Spaces else Touch) (b ∷ t)) (sym n) here)
    ]

separator_by-some : (s u : List ℕ) {q : Separator × List ℕ} → drop_while is_space s ≡ u → separator_by (starts_with_space s) u ≡ Some q → LinkStands s q.0 q.1
separator_by-some s [] e h = cc
separator_by-some s (b ∷ t) {q} e h =
    elim (if_is (b == 44) h) [
      | inl w ↦ (let k = byte-stands s b 44 t e w.0 in
          of_pair (LinkStands s) w.1 (subst (λ (u : List ℕ). LinkStands u Comma (drop_while is_space t)) (sym k.4) (comma_link k.2 k.3)))
      | inr v ↦ elim (if_is (b == 62) v.1) [
        | inl w ↦ (let k = byte-stands s b 62 t e w.0 in
            of_pair (LinkStands s) w.1 (joint_link (λ x. cc) (subst (λ (u : List ℕ). JointStands u Parent (drop_while is_space t)) (sym k.4) (stepped k.2 k.3))))
        | inr w ↦ of_pair (LinkStands s) w.1 (touch-stands s b t e)
      ]
    ]

link-some : (s : List ℕ) {q : Separator × List ℕ} → separator_at s ≡ Some q → LinkStands s q.0 q.1
link-some s h = separator_by-some s (drop_while is_space s) refl h

separator_by-none : (v : Bool) (u : List ℕ) → separator_by v u ≡ None → u ≡ []
separator_by-none v [] h = refl
separator_by-none v (b ∷ t) h =
    elim (if_is (b == 44) h) [
      | inl w ↦ none_some _ (sym w.1)
      | inr v ↦ elim (if_is (b == 62) v.1) [ inl w ↦ none_some _ (sym w.1) | inr w ↦ none_some _ (sym w.1) ]
    ]

link-none : (s : List ℕ) → separator_at s ≡ None → drop_while is_space s ≡ []
link-none s h = separator_by-none (starts_with_space s) (drop_while is_space s) h

-- the next part

part_by-is : (link : Separator) (o : Option (Selector × List ℕ)) {l : Separator} {e : Selector} {r : List ℕ} → part_by link o ≡ Part l e r → (link ≡ l) × (o ≡ Some (e, r))
part_by-is link None h = cc
part_by-is link (Some p) {l} {e} {r} h =
    let f : p.0 ≡ e = cc in
    let g : p.1 ≡ r = cc in
    (cc, (λ i. Some (f i, g i)))

next_by-part : (s : List ℕ) (o : Option (Separator × List ℕ)) {l : Separator} {e : Selector} {r : List ℕ} → separator_at s ≡ o → next_by o ≡ Part l e r →
    (t : List ℕ) × LinkStands s l t × SimpleStands t e r
next_by-part s None e h = cc
next_by-part s (Some q) e h =
    let p = part_by-is q.0 (simple_at q.1) h in
    (q.1, subst (λ (l : Separator). LinkStands s l q.1) p.0 (link-some s e), simple-some q.1 p.1)

pub next-part : (s : List ℕ) {l : Separator} {e : Selector} {r : List ℕ} → next_at s ≡ Part l e r → (t : List ℕ) × LinkStands s l t × SimpleStands t e r
next-part s h = next_by-part s (separator_at s) refl h

part_by-end : (link : Separator) (o : Option (Selector × List ℕ)) → part_by link o ≡ End → ⊥
part_by-end link None h = cc
part_by-end link (Some p) h = cc

next_by-end : (s : List ℕ) (o : Option (Separator × List ℕ)) → separator_at s ≡ o → next_by o ≡ End → drop_while is_space s ≡ []
next_by-end s None e h = link-none s e
next_by-end s (Some q) e h = absurd (part_by-end q.0 (simple_at q.1) h)

next-end : (s : List ℕ) → next_at s ≡ End → AreSpaces s
next-end s h =
    let i = spaces_of s in
    let e = i.2 ∙ (ap (λ (t : List ℕ). i.0 ++ t) (next_by-end s (separator_at s) refl h) ∙ append-nil i.0) in
    subst AreSpaces (sym e) i.1

end-next : {s : List ℕ} → AreSpaces s → next_at s ≡ End
end-next {s} h =
    let e : drop_while is_space s ≡ [] = ap (drop_while is_space) (sym (append-nil s)) ∙ drop_while-spaces [] h in
    rw e refl

joint-le : {m n : List ℕ} {gives : Selector → Selector → Selector} → JointStands m gives n → length n ≤ length m
joint-le touching = omega arith
joint-le (spaced {spaces = spaces} {rest = rest} k) = omega (arith, length-append spaces rest)
joint-le (stepped {before = before} {after = after} {rest = rest} k l) = omega (arith, length-append before (62 ∷ (after ++ rest)), length-append after rest)

link-le : {s r : List ℕ} {l : Separator} → LinkStands s l r → length r ≤ length s
link-le (comma_link {before = before} {after = after} {rest = rest} k l) = omega (arith, length-append before (44 ∷ (after ++ rest)), length-append after rest)
link-le (joint_link n j) = joint-le j

pub next_lt : (s : List ℕ) (l : Separator) (e : Selector) (r : List ℕ) → next_at s ≡ Part l e r → length r < length s
next_lt s l e r h = let p = next-part s h in omega (arith, link-le p.1, simple-lt p.2)

-- all parts, step by step

within-enough : (n m : ℕ) (s : List ℕ) → length s < n → length s < m → parts_within n s ≡ parts_within m s
within-enough zero m s h k = absurd (omega arith)
within-enough (suc n) zero s h k = absurd (omega arith)
within-enough (suc n) (suc m) s h k =
    (elim (next_at s) as (λ (v : Next). next_at s ≡ v → parts_by (λ r. parts_within n r) v ≡ parts_by (λ r. parts_within m r) v) [
      | End ↦ λ e. refl
      | Bad ↦ λ e. refl
      | Part l p r ↦ λ e.
          let short = next_lt s l p r e in
          ap (option_map (λ (ps : List (Separator × Selector)). (l, p) ∷ ps)) (within-enough n m r (omega arith) (omega arith))
    ]) refl

parts-enough : (n : ℕ) (s : List ℕ) → length s < n → parts_within n s ≡ parts_at s
unfolding parts_at
parts-enough n s h = within-enough n (length s + 1) s h (omega arith)

pub parts-step : (s : List ℕ) → parts_at s ≡ parts_by parts_at (next_at s)
parts-step s =
    sym (parts-enough (suc (length s + 1)) s (omega arith)) ∙
    (elim (next_at s) as (λ (v : Next). next_at s ≡ v → parts_by (λ r. parts_within (length s + 1) r) v ≡ parts_by parts_at v) [
      | End ↦ λ e. refl
      | Bad ↦ λ e. refl
      | Part l p r ↦ λ e.
          let short = next_lt s l p r e in
          ap (option_map (λ (ps : List (Separator × Selector)). (l, p) ∷ ps)) (parts-enough (length s + 1) r (omega arith))
    ]) refl

-- what is read of the parts after a chain
abbrev pub rest_read : Option Selector → Selector → List ℕ → Option Selector
rest_read before chain s = option_map (nest before chain) (parts_at s)

map_map : {A B C : Type 0} (f : B → C) (g : A → B) (o : Option A) → option_map f (option_map g o) ≡ option_map (λ x. f (g x)) o
map_map f g None = refl
map_map f g (Some x) = refl

pub rest_part : (before : Option Selector) (chain : Selector) (s : List ℕ) (l : Separator) (e : Selector) (r : List ℕ) → next_at s ≡ Part l e r →
    rest_read before chain s ≡ rest_read (list_after l before chain) (complex_after l chain e) r
rest_part before chain s l e r h =
    ap (option_map (nest before chain)) (parts-step s ∙ ap (parts_by parts_at) h) ∙ map_map (nest before chain) (λ ps. (l, e) ∷ ps) (parts_at r)

pub rest_end : (before : Option Selector) (chain : Selector) (s : List ℕ) → next_at s ≡ End → rest_read before chain s ≡ Some (push_complex before chain)
rest_end before chain s h = ap (option_map (nest before chain)) (parts-step s ∙ ap (parts_by parts_at) h)

pub rest_bad : (before : Option Selector) (chain : Selector) (s : List ℕ) → next_at s ≡ Bad → rest_read before chain s ≡ None
rest_bad before chain s h = ap (option_map (nest before chain)) (parts-step s ∙ ap (parts_by parts_at) h)

-- whole texts: what is read, from what stands

-- what is read from the first part of a chain on
abbrev pub chain_read : Option Selector → List ℕ → Option Selector
chain_read before s = option_and_then (λ (p : Selector × List ℕ). rest_read before p.0 p.1) (simple_at s)

-- what is read after chains: nothing more, or the chain after a `,`
abbrev finish : Selector → List ℕ → Option Selector
finish e [] = Some e
finish e (b ∷ t) = chain_read (Some e) (drop_while is_space t)

abbrev EndsChain : List ℕ → Type 0
EndsChain rest = (rest ≡ []) ⊎ ((t : List ℕ) × (rest ≡ 44 ∷ t))

chain-begins : {s rest : List ℕ} {e : Selector} → ChainStands s e rest → drop_while is_space s ≡ s
chain-begins (first_part h) = drop_while-part h
chain-begins (next_part c j h) = chain-begins c

chain-is : {s rest : List ℕ} {e : Selector} → ChainStands s e rest → (before : Option Selector) → chain_read before s ≡ rest_read before e rest
chain-is (first_part h) before = rw (simple-is h) refl
chain-is (next_part {m = m} {rest = rest} {a = a} {b = b} c j h) before =
    let n = joint-next j h in
    chain-is c before ∙ (rest_part before a m n.0 b rest n.1 ∙ (λ i. rest_read ((n.2 before a).0 i) ((n.2 before a).1 i) rest))

comma-next : {after : List ℕ} (t : List ℕ) → AreSpaces after → next_at (after ++ 44 ∷ t) ≡ part_by Comma (simple_at (drop_while is_space t))
comma-next t h = ap next_by (comma-is t h)

rest-comma : (o : Option (Selector × List ℕ)) (before : Option Selector) (chain : Selector) (s : List ℕ) → next_at s ≡ part_by Comma o →
    rest_read before chain s ≡ option_and_then (λ (p : Selector × List ℕ). rest_read (Some (push_complex before chain)) p.0 p.1) o
rest-comma None before chain s h = rest_bad before chain s h
rest-comma (Some p) before chain s h = rest_part before chain s Comma p.0 p.1 h

rest-finish : (before : Option Selector) (chain : Selector) {after : List ℕ} (rest : List ℕ) → AreSpaces after → EndsChain rest →
    rest_read before chain (after ++ rest) ≡ finish (push_complex before chain) rest
rest-finish before chain {after} rest h (inl e) =
    subst (λ (rest : List ℕ). rest_read before chain (after ++ rest) ≡ finish (push_complex before chain) rest) (sym e)
    (rest_end before chain (after ++ []) (end-next (subst AreSpaces (sym (append-nil after)) h)))
rest-finish before chain {after} rest h (inr t) =
    subst (λ (rest : List ℕ). rest_read before chain (after ++ rest) ≡ finish (push_complex before chain) rest) (sym t.1)
    (rest-comma (simple_at (drop_while is_space t.0)) before chain (after ++ 44 ∷ t.0) (comma-next t.0 h))

spaced_chain-is : {s rest : List ℕ} {e : Selector} → SpacedChainStands s e rest → EndsChain rest → (before : Option Selector) →
    chain_read before (drop_while is_space s) ≡ finish (push_complex before e) rest
spaced_chain-is (spaced_chain {s = s} {rest = rest} {e = e} k c l) n before =
    ap (chain_read before) (drop_while-spaces s k ∙ chain-begins c) ∙ (chain-is c before ∙ rest-finish before e rest l n)

chains-is : {s rest : List ℕ} {e : Selector} → ChainsStand s e rest → EndsChain rest → selector_at s ≡ finish e rest
chains-is (first_chain c) n = spaced_chain-is c n None
chains-is (next_chain {m = m} {a = a} cs c) n = chains-is cs (inr (m, refl)) ∙ spaced_chain-is c n (Some a)

-- whole texts: what stands, from what is read

-- the chains before the one that begins at u, up to their `,` and the spaces after it
StandsBefore : List ℕ → Option Selector → List ℕ → Type 0
StandsBefore s None u = (spaces : List ℕ) × AreSpaces spaces × (s ≡ spaces ++ u)
StandsBefore s (Some before) u = (m spaces : List ℕ) × ChainsStand s before (44 ∷ m) × AreSpaces spaces × (m ≡ spaces ++ u)

spaced-stands : {s u after rest : List ℕ} {e : Selector} → ((spaces : List ℕ) × AreSpaces spaces × (s ≡ spaces ++ u)) → ChainStands u e (after ++ rest) → AreSpaces after →
    SpacedChainStands s e rest
spaced-stands {s} {u} {after} {rest} {e} b c l = subst (λ (s : List ℕ). SpacedChainStands s e rest) (sym b.2) (spaced_chain b.1 c l)

closed-stands : (s u : List ℕ) {after rest : List ℕ} (before : Option Selector) (chain : Selector) → StandsBefore s before u → ChainStands u chain (after ++ rest) → AreSpaces after →
    ChainsStand s (push_complex before chain) rest
unfolding StandsBefore
closed-stands s u None chain b c l = first_chain (spaced-stands b c l)
closed-stands s u (Some before) chain b c l = next_chain b.2 (spaced-stands (b.1, b.3, b.4) c l)

chain_kept : (l : Separator) (before : Option Selector) (chain e : Selector) → l ≢ Comma → (list_after l before chain ≡ before) × (complex_after l chain e ≡ combine l chain e)
chain_kept Comma before chain e n = absurd (n refl)
chain_kept Step before chain e n = (refl, refl)
chain_kept Spaces before chain e n = (refl, refl)
chain_kept Touch before chain e n = (refl, refl)

part-stands : (s u : List ℕ) {r t r' : List ℕ} {l : Separator} (before : Option Selector) (chain e : Selector) → StandsBefore s before u → ChainStands u chain r → LinkStands r l t → SimpleStands t e r' →
    (v : List ℕ) × StandsBefore s (list_after l before chain) v × ChainStands v (complex_after l chain e) r'
unfolding StandsBefore
part-stands s u before chain e b c (comma_link {after = after} {rest = t} k l) h = (t, (after ++ t, after, closed-stands s u before chain b c k, l, refl), first_part h)
part-stands s u {r' = r'} {l = l} before chain e b c (joint_link n j) h =
    let k = chain_kept l before chain e n in
    (u, subst (λ (o : Option Selector). StandsBefore s o u) (sym k.0) b, subst (λ (x : Selector). ChainStands u x r') (sym k.1) (next_part c j h))

within-stands : (n : ℕ) (s u r : List ℕ) (before : Option Selector) (chain : Selector) (ps : List (Separator × Selector)) → parts_within n r ≡ Some ps →
    StandsBefore s before u → ChainStands u chain r → IsSelectorText s (nest before chain ps)
within-stands zero s u r before chain ps h b c = cc
within-stands (suc n) s u r before chain ps h b c =
    (elim (next_at r) as (λ (v : Next). next_at r ≡ v → parts_by (λ r. parts_within n r) v ≡ Some ps → IsSelectorText s (nest before chain ps)) [
      | End ↦ λ e k.
          let w : [] ≡ ps = cc in
          subst (λ (ps : List (Separator × Selector)). IsSelectorText s (nest before chain ps)) w
          (closed-stands s u {after = r} {rest = []} before chain b (subst (ChainStands u chain) (sym (append-nil r)) c) (next-end r e))
      | Bad ↦ λ e k. none_some _ k
      | Part l p r' ↦ λ e k.
          let m = map-some (λ (ps : List (Separator × Selector)). (l, p) ∷ ps) (parts_within n r') k in
          let t = next-part r e in
          let v = part-stands s u before chain p b c t.1 t.2 in
          subst (λ (ps : List (Separator × Selector)). IsSelectorText s (nest before chain ps)) m.2
          (within-stands n s v.0 r' (list_after l before chain) (complex_after l chain p) m.0 m.1 v.1 v.2)
    ]) refl h

text-some : (s : List ℕ) (e : Selector) → selector_at s ≡ Some e → IsSelectorText s e
unfolding parts_at StandsBefore
text-some s e h =
    let b = bind-some (λ (p : Selector × List ℕ). option_map (nest None p.0) (parts_at p.1)) (simple_at (drop_while is_space s)) h in
    let m = map-some (nest None b.0.0) (parts_at b.0.1) b.2 in
    let i = spaces_of s in
    subst (IsSelectorText s) m.2 (within-stands (length b.0.1 + 1) s (drop_while is_space s) b.0.1 None b.0.0 m.0 m.1 (i.0, i.1, i.2) (first_part (simple-some (drop_while is_space s) b.1)))

pub text-only : (s : List ℕ) (e : Selector) → IsSelectorText s e ↔ (selector_at s ≡ Some e)
text-only s e = ((λ h. chains-is h (inl refl)), text-some s e)

no_text : (s : List ℕ) (o : Option Selector) → selector_at s ≡ o → ((e : Selector) → IsSelectorText s e → ⊥) → o ≡ None
no_text s None e h = refl
no_text s (Some x) e h = absurd (h x (text-some s x e))

pub text-none : (s : List ℕ) → ((e : Selector) → IsSelectorText s e → ⊥) ↔ (selector_at s ≡ None)
text-none s = (no_text s (selector_at s) refl, (λ h e k. none_some ⊥ (sym h ∙ (text-only s e).0 k)))

-- a part that stands alone

pub alone-text : (s : List ℕ) → StandsAlone s → (e : Selector) × IsSelectorText s e
alone-text s (alone {after = after} {e = e} k h l) =
    (e, first_chain (spaced_chain k (first_part (subst (SimpleStands _ e) (sym (append-nil after)) h)) l))

pub alone-read : (s : List ℕ) → StandsAlone s → (p : Selector × List ℕ) × (simple_at (drop_while is_space s) ≡ Some p) × (next_at p.1 ≡ End)
alone-read s (alone {s = t} {after = after} {e = e} k h l) =
    ((e, after), ap simple_at (drop_while-spaces t k ∙ drop_while-part h) ∙ simple-is h, end-next l)

-- a simple part asks for no ancestors
op_joins_not : {op : List ℕ} {gives : List ℕ → List ℕ → Selector} → OpGives op gives → (k v : List ℕ) → has_combinator (gives k v) ≡ false
op_joins_not equal k v = refl
op_joins_not has_part k v = refl
op_joins_not starts k v = refl
op_joins_not ends k v = refl
op_joins_not contains k v = refl

part_joins_not : {s rest : List ℕ} {e : Selector} → SimpleStands s e rest → has_combinator e ≡ false
part_joins_not (id_part r) = refl
part_joins_not (class_part r) = refl
part_joins_not all_part = refl
part_joins_not (tag_part n r) = refl
part_joins_not (key_part r) = refl
part_joins_not (value_part {k = k} {v = v} r g w) = op_joins_not g k v

pub alone_without_joint : (s : List ℕ) (e : Selector) → StandsAlone s → IsSelectorText s e → has_combinator e ≡ false
unfolding alone-text
alone_without_joint s e (alone {e = f} k h l) t =
    let p : selector_at s ≡ Some f = (text-only s f).0 (alone-text s (alone k h l)).1 in
    let q : selector_at s ≡ Some e = (text-only s e).0 t in
    let same : e ≡ f = cc in
    ap has_combinator same ∙ part_joins_not h

pub ruleset laws = (text-only, text-none, alone-text, alone_without_joint)
