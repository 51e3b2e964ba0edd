-- What is read stands by the grammar.
use Rattle.std.proofs.Common.{◌≡◌, ℕ, zero, suc, List, [], ◌∷◌, Bool, true, false, Result, Ok, Err, refl, ap, sym, subst, ◌∙◌}
use Rattle.std.specs.Str.{byte}
use Rattle.tl_css.specs.declared.error.Wrong.{Wrong}
use Rattle.tl_css.specs.declared.text.role.Role.{Role}
use Rattle.tl_css.specs.declared.text.role.Role.TheVariants.{Top}
use Rattle.tl_css.specs.declared.text.role.Combinator.{Combinator}
use Rattle.tl_css.specs.declared.text.role.Combinator.TheVariants.{Descendant}
use Rattle.tl_css.specs.declared.text.role.Before.TheVariants.{Begin}
use Rattle.tl_css.specs.declared.selector.Way.TheVariants.{From, To}
use Rattle.tl_css.specs.Selector.{Css, Both, Either, At}
use Rattle.tl_css.specs.Program.{last_waiting}
use Rattle.tl_css.specs.Read.{Read, ◌>>=◌}
use Rattle.tl_css.specs.PseudoClass.{Simple, Whole, Opens}
use Rattle.tl_css.specs.Item.{Item, is_relative, is_top}
use Rattle.tl_css.specs.Reading.{State, Open, start, link_of, reach_of, with_simple, with_before, combine, meet_if, unite_if, relate, finish, apply_role, close, go_on, item_at}
use Rattle.tl_css.specs.Grammar.{CombinatorStands, LeadStands, role_of, Compound, Tail, Complex, Complexes, Stands, whole, list, compound_first, compound_next, tail_last, tail_next, complex_first, complex_next, complex_joined, relative_complex, list_first, list_next, IsSelector}
use Rattle.tl_css.specs.SimpleGrammar.{GapStands}
use Rattle.tl_css.proofs.Leaf.{SimpleReads}
use Rattle.tl_css.specs.Grammar.{Part as PartSort}
use Rattle.tl_css.proofs.Freely.{run, at, freely}
use Rattle.tl_css.proofs.Roles.{never_top}
use Rattle.tl_css.proofs.Simples.{simple_is}
use Rattle.tl_css.proofs.ItemsRead.{Reads, NextItem, touch, join, comma_item, close_item, end_item, FirstItem, plain_item, relative_item, next_reads, first_reads}
use Rattle.tl_css.proofs.Complete.{combine_plain, combine_relative, lead_plain, lead_relative, apply_is, seen_more}

-- A list that begins at t, over the selectors es: whatever complex selector stands next, the list goes on to its end
abbrev Base : Bool → List ℕ → List Css → Bool → List Css → List ℕ → Type 0
Base r t es listed ws s = (x : Css) (rest : List ℕ) → Stands (Complex r) s x rest
    → (y : Css) × Stands (Complexes r) t y rest × (unite_if listed (x ∷ ws) ≡ y ∷ es)

-- a relative selector that begins at s: whatever stands next of it, it goes on to its end
abbrev Before_tail : List ℕ → Combinator → List Combinator → List Css → List Css → List ℕ → Type 0
Before_tail s c cs vs ws n = (e : Css) (rest : List ℕ) → Stands Tail n e rest
    → (x : Css) × Stands (Complex true) s x rest × (relate (c ∷ cs) (e ∷ vs) ≡ x ∷ ws)

-- what has been read of a list, up to s
data Fits : Bool → List ℕ → List Css → Bool → Bool → List Combinator → List Css → List ℕ → Type 0 where
  fresh : {r listed : Bool} {t s : List ℕ} {es ws : List Css} → Base r t es listed ws s → Fits r t es listed false [] ws s
  plain : {listed : Bool} {t m s : List ℕ} {es ws : List Css} {a : Css} → Base false t es listed ws m → Stands (Complex false) m a s
      → Fits false t es listed true [] (a ∷ ws) s
  related : {listed : Bool} {t m n s : List ℕ} {es vs ws : List Css} {a : Css} {c : Combinator} {cs : List Combinator}
      → Base true t es listed ws m → Before_tail m c cs vs ws n → Stands Compound n a s → Fits true t es listed true (c ∷ cs) (a ∷ vs) s

-- a simple selector is awaited at p
abbrev Waits : Bool → List ℕ → List Css → Bool → Bool → List Combinator → List Css → Bool → List ℕ → Type 0
Waits r t es listed begun cs ws first p = (e : Css) (rest : List ℕ) → Stands (PartSort first) p e rest
    → Fits r t es listed true cs (meet_if begun (e ∷ ws)) rest

-- the lists around the one that is read, for a list of this role that begins at t over the selectors es
Around : List ℕ → Role → List Css → List ℕ → List Open → Type 0
Around text role es t [] = (role ≡ Top) × (es ≡ []) × (t ≡ text)
Around text role es t (o ∷ os) = (u : List ℕ) × (fs : List Css) × (is_top role ≡ false) × Around text o.role fs u os
    × ((e : Css) (k rest : List ℕ) (w : Bool) → Stands (Complexes (is_relative role)) t e k → GapStands k w (byte ")" ∷ rest)
    → Fits (is_relative o.role) u fs o.listed true o.combinators (meet_if o.begun (role_of role e ∷ es)) rest)

-- a simple selector has been read, and where it was awaited
record Placed (r : Bool) (t : List ℕ) (es : List Css) (role : Role) (left : ℕ) (listed : Bool) (outer : List Open) (st : State) (x : Simple) (rest : List ℕ) : Type 0 where
  first : Bool
  p : List ℕ
  begun : Bool
  cs : List Combinator
  ws : List Css
  stands : SimpleReads first p x rest
  is : st ≡ at role left listed begun cs ws outer
  waits : Waits r t es listed begun cs ws first p

touch_fits : {r listed : Bool} {t n s rest : List ℕ} {es ws : List Css} {cs : List Combinator} {x : Simple} (role : Role) (left : ℕ) (outer : List Open)
    → Fits r t es listed true cs ws s → GapStands s false n → SimpleReads false n x rest
    → Placed r t es role left listed outer (at role left listed true cs ws outer) x rest
touch_fits {n = n} role left outer (plain {ws = ws} {a = a} base front) gap own = record {
  first = false;
  p = n;
  begun = true;
  cs = [];
  ws = a ∷ ws;
  stands = own;
  is = refl;
  waits = λ e rest d. plain base (complex_next front gap d);
}
touch_fits {n = n} role left outer (related {vs = vs} {a = a} {c = c} {cs = cs} base before front) gap own = record {
  first = false;
  p = n;
  begun = true;
  cs = c ∷ cs;
  ws = a ∷ vs;
  stands = own;
  is = refl;
  waits = λ e rest d. related base before (compound_next front gap d);
}

join_fits : {r listed : Bool} {t n s rest : List ℕ} {es ws : List Css} {cs : List Combinator} {x : Simple} (role : Role) (left : ℕ) (outer : List Open)
    (d : Combinator) → is_relative role ≡ r → Fits r t es listed true cs ws s → CombinatorStands s d n → SimpleReads true n x rest
    → Placed r t es role left listed outer (combine d (at role left listed true cs ws outer)) x rest
join_fits {n = n} role left outer d is (plain {listed = listed} {ws = ws} {a = a} base front) mark own = record {
  first = true;
  p = n;
  begun = true;
  cs = [];
  ws = At From (link_of d) (reach_of d) a ∷ ws;
  stands = own;
  is = combine_plain d role left listed true [] (a ∷ ws) outer is;
  waits = λ e rest q. plain base (complex_joined front mark q);
}
join_fits {n = n} role left outer d is (related {listed = listed} {vs = vs} {a = a} {c = c} {cs = cs} base before front) mark own = record {
  first = true;
  p = n;
  begun = false;
  cs = d ∷ c ∷ cs;
  ws = a ∷ vs;
  stands = own;
  is = combine_relative d role left listed true (c ∷ cs) (a ∷ vs) outer is;
  waits = λ e rest q. related base
      (λ f rest tail. let more = before (Both a (At To (link_of d) (reach_of d) f)) rest (tail_next front mark tail) in (more.0, more.1, seen_more d c cs a f vs ∙ more.2))
      (compound_first q);
}

plain_fits : {listed : Bool} {t n s rest : List ℕ} {es ws : List Css} {cs : List Combinator} {x : Simple} {w : Bool} (role : Role) (left : ℕ) (outer : List Open)
    → is_relative role ≡ false → Fits false t es listed false cs ws s → GapStands s w n → SimpleReads true n x rest
    → Placed false t es role left listed outer (with_before (Begin Descendant) (at role left listed false cs ws outer)) x rest
plain_fits {n = n} role left outer is (fresh {listed = listed} {ws = ws} base) gap own = record {
  first = true;
  p = n;
  begun = false;
  cs = [];
  ws = ws;
  stands = own;
  is = lead_plain Descendant role left listed false [] ws outer is;
  waits = λ e rest q. plain base (complex_first gap q);
}

relative_fits : {listed : Bool} {t n s rest : List ℕ} {es ws : List Css} {cs : List Combinator} {x : Simple} {c : Combinator} (role : Role) (left : ℕ) (outer : List Open)
    → is_relative role ≡ true → Fits true t es listed false cs ws s → LeadStands s c n → SimpleReads true n x rest
    → Placed true t es role left listed outer (with_before (Begin c) (at role left listed false cs ws outer)) x rest
relative_fits {n = n} {c = c} role left outer is (fresh {listed = listed} {ws = ws} base) mark own = record {
  first = true;
  p = n;
  begun = false;
  cs = c ∷ [];
  ws = ws;
  stands = own;
  is = lead_relative c role left listed false [] ws outer is;
  waits = λ e rest q. related base
      (λ f rest tail. (At To (link_of c) (reach_of c) f, relative_complex mark tail, refl))
      (compound_first q);
}

-- a list up to s, at the end of a complex selector
closed_fits : {r listed : Bool} {t s : List ℕ} {es ws : List Css} {cs : List Combinator} → Fits r t es listed true cs ws s
    → (y : Css) × Stands (Complexes r) t y s × (unite_if listed (relate cs ws) ≡ y ∷ es)
closed_fits {s = s} (plain {a = a} base front) = base a s front
closed_fits {s = s} (related {listed = listed} {a = a} base before front) =
    let x = before a s (tail_last front) in
    let y = base x.0 s x.1 in
    (y.0, y.1, ap (λ (es : List Css). unite_if listed es) x.2 ∙ y.2)

pub bind_ok : {A B : Type 0} (r : Result A Wrong) (f : A → Result B Wrong) (y : B) → (r >>= f) ≡ Ok y → (a : A) × (r ≡ Ok a) × (f a ≡ Ok y)
bind_ok (Ok a) f y h = (a, refl, h)
bind_ok (Err w) f y h = absurd (cc)

abbrev ok_css : Css → Result Css Wrong
ok_css e = Ok e

ok_is : (x y : Css) → ok_css x ≡ ok_css y → x ≡ y
ok_is x y h = cc

top_relative : (role : Role) (t s : List ℕ) (y e : Css) (text : List ℕ) → role ≡ Top → t ≡ text → y ≡ e
    → Stands (Complexes (is_relative role)) t y s → Stands (Complexes false) text e s
top_relative role t s y e text is same found d =
    subst (λ (v : Css). Stands (Complexes false) text v s) found
    (subst (λ (t : List ℕ). Stands (Complexes false) t y s) same
    (subst (λ (role : Role). Stands (Complexes (is_relative role)) t y s) is d))

pub not_both : (b : Bool) → b ≡ true → b ≡ false → ⊥
not_both b p q = cc

module _ (text : List ℕ) (n : ℕ) (e : Css) where
  -- what is read from a state that fits is a selector
  Sounds : Type 0
  Sounds = (role : Role) (left : ℕ) (listed begun : Bool) (cs : List Combinator) (ws : List Css) (outer : List Open) (s t : List ℕ) (es : List Css)
      → Around text role es t outer → Fits (is_relative role) t es listed begun cs ws s
      → run n (at role left listed begun cs ws outer) s ≡ Ok e → IsSelector text e

  after_part : Sounds → (role : Role) (left : ℕ) (listed : Bool) (outer : List Open) (st : State) (rest t : List ℕ) (es : List Css) (x : Simple)
      → Around text role es t outer → Placed (is_relative role) t es role left listed outer st x rest
      → run n (with_simple x st) rest ≡ Ok e → IsSelector text e
  unfolding Sounds Around
  after_part more role left listed outer st rest t es (Whole f) around own h =
      more role left listed true own.cs (meet_if own.begun (f ∷ own.ws)) outer rest t es around (own.waits f rest (whole (simple_is own.first own.p (Whole f) rest own.stands)))
      (subst (λ (st : State). run n (with_simple (Whole f) st) rest ≡ Ok e) own.is h)
  after_part more role left listed outer st rest t es (Opens inner l) around own h =
      more inner l false false [] own.ws (record { role = role; left = left; listed = listed; begun = own.begun; combinators = own.cs } ∷ outer) rest rest own.ws (
        t,
        es,
        never_top own.first own.p inner l rest own.stands,
        around,
        (λ f k after w d gap. let begins = simple_is own.first own.p (Opens inner l) rest own.stands in own.waits (role_of inner f) after (subst (λ (p : List ℕ). Stands (PartSort own.first) p (role_of inner f) after) (sym begins.1) (list begins.2 d gap))),
      )
      (fresh (λ x k d. (x, list_first d, refl)))
      (subst (λ (st : State). run n (with_simple (Opens inner l) st) rest ≡ Ok e) own.is h)

  after_comma : Sounds → (role : Role) (left : ℕ) (listed : Bool) (cs : List Combinator) (ws : List Css) (outer : List Open) (s rest t : List ℕ) (es : List Css) (w : Bool)
      → Around text role es t outer → Fits (is_relative role) t es listed true cs ws s → GapStands s w (byte "," ∷ rest)
      → run n (finish (at role left listed true cs ws outer)) rest ≡ Ok e → IsSelector text e
  unfolding Sounds
  after_comma more role left listed cs ws outer s rest t es w around fits gap h =
      let own = closed_fits fits in
      more role left true false [] (own.0 ∷ es) outer rest t es around
      (fresh (λ x k d. (Either own.0 x, list_next own.1 gap d, refl)))
      (subst (λ (ws : List Css). run n (at role left true false [] ws outer) rest ≡ Ok e) own.2 h)

  after_close : Sounds → (role : Role) (left : ℕ) (listed : Bool) (cs : List Combinator) (ws : List Css) (outer : List Open) (s rest t : List ℕ) (es : List Css) (w : Bool)
      → Around text role es t outer → Fits (is_relative role) t es listed true cs ws s → is_top role ≡ false → GapStands s w (byte ")" ∷ rest)
      → go_on (λ st. run n st rest) (close (finish (at role left listed true cs ws outer)) outer) ≡ Ok e → IsSelector text e
  unfolding Sounds Around
  after_close more role left listed cs ws [] s rest t es w around fits inner gap h =
      absurd (not_both (is_top role) (ap is_top around.0) inner)
  after_close more role left listed cs ws (o ∷ outer) s rest t es w around fits inner gap h =
      let own = closed_fits fits in
      more o.role o.left o.listed true o.combinators (meet_if o.begun (role_of role own.0 ∷ es)) outer rest around.0 around.1 around.3
      (around.4 own.0 s rest w own.1 gap)
      (subst (λ (ws : List Css). run n (at o.role o.left o.listed true o.combinators (meet_if o.begun ws) outer) rest ≡ Ok e)
      (ap (λ (ws : List Css). apply_role role ws) own.2 ∙ apply_is role own.0 es) h)

  after_end : (role : Role) (left : ℕ) (listed : Bool) (cs : List Combinator) (ws : List Css) (outer : List Open) (s t : List ℕ) (es : List Css) (w : Bool)
      → Around text role es t outer → Fits (is_relative role) t es listed true cs ws s → is_top role ≡ true → GapStands s w []
      → go_on (λ st. run n st []) (close (finish (at role left listed true cs ws outer)) outer) ≡ Ok e → IsSelector text e
  unfolding Around
  after_end role left listed cs ws [] s t es w around fits top gap h =
      let own = closed_fits fits in
      let found = ok_is own.0 e (ap (λ (ws : List Css). ok_css (last_waiting ws)) (sym own.2) ∙ h) in
      record {
        rest = s;
        white = w;
        list = top_relative role t s own.0 e text around.0 around.2 found own.1;
        end = gap;
      }
  after_end role left listed cs ws (o ∷ outer) s t es w around fits top gap h = absurd (not_both (is_top role) top around.2)

  next_sound : Sounds → (role : Role) (left : ℕ) (listed : Bool) (cs : List Combinator) (ws : List Css) (outer : List Open) (s rest t : List ℕ) (es : List Css) (item : Item)
      → Around text role es t outer → Fits (is_relative role) t es listed true cs ws s → NextItem role s item rest
      → go_on (λ st. run n st rest) (freely item (at role left listed true cs ws outer)) ≡ Ok e → IsSelector text e
  next_sound more role left listed cs ws outer s rest t es item around fits (touch {x = x} gap own) h =
      after_part more role left listed outer (at role left listed true cs ws outer) rest t es x around (touch_fits role left outer fits gap own) h
  next_sound more role left listed cs ws outer s rest t es item around fits (join {c = c} {x = x} mark own) h =
      after_part more role left listed outer (combine c (at role left listed true cs ws outer)) rest t es x around (join_fits role left outer c refl fits mark own) h
  next_sound more role left listed cs ws outer s rest t es item around fits (comma_item {w = w} gap) h =
      after_comma more role left listed cs ws outer s rest t es w around fits gap h
  next_sound more role left listed cs ws outer s rest t es item around fits (close_item {w = w} inner gap) h =
      after_close more role left listed cs ws outer s rest t es w around fits inner gap h
  next_sound more role left listed cs ws outer s rest t es item around fits (end_item {w = w} top gap) h =
      after_end role left listed cs ws outer s t es w around fits top gap h

  first_sound : Sounds → (role : Role) (left : ℕ) (listed : Bool) (cs : List Combinator) (ws : List Css) (outer : List Open) (s rest t : List ℕ) (es : List Css) (item : Item)
      → Around text role es t outer → Fits (is_relative role) t es listed false cs ws s → FirstItem role s item rest
      → go_on (λ st. run n st rest) (freely item (at role left listed false cs ws outer)) ≡ Ok e → IsSelector text e
  first_sound more role left listed cs ws outer s rest t es item around fits (plain_item {x = x} is gap own) h =
      let plain_in : Fits false t es listed false cs ws s = subst (λ (r : Bool). Fits r t es listed false cs ws s) is fits in
      let st = with_before (Begin Descendant) (at role left listed false cs ws outer) in
      after_part more role left listed outer st rest t es x around
      (subst (λ (r : Bool). Placed r t es role left listed outer st x rest) (sym is) (plain_fits role left outer is plain_in gap own)) h
  first_sound more role left listed cs ws outer s rest t es item around fits (relative_item {c = c} {x = x} is mark own) h =
      let relative_in : Fits true t es listed false cs ws s = subst (λ (r : Bool). Fits r t es listed false cs ws s) is fits in
      let st = with_before (Begin c) (at role left listed false cs ws outer) in
      after_part more role left listed outer st rest t es x around
      (subst (λ (r : Bool). Placed r t es role left listed outer st x rest) (sym is) (relative_fits role left outer is relative_in mark own)) h

  -- an item and what it leads to
  item_sound : Sounds → (role : Role) (left : ℕ) (listed begun : Bool) (cs : List Combinator) (ws : List Css) (outer : List Open) (s t : List ℕ) (es : List Css)
      (p : Item × List ℕ)
      → Around text role es t outer → Fits (is_relative role) t es listed begun cs ws s
      → item_at (record { role = role; left = left; listed = listed; begun = begun; combinators = cs }) s ≡ Ok p
      → go_on (λ st. run n st p.1) (freely p.0 (at role left listed begun cs ws outer)) ≡ Ok e → IsSelector text e
  item_sound more role left listed true cs ws outer s t es p around fits is h =
      next_sound more role left listed cs ws outer s p.1 t es p.0 around fits (subst (λ (r : Read Item). Reads (NextItem role s) r) is (next_reads role left s)) h
  item_sound more role left listed false cs ws outer s t es p around fits is h =
      first_sound more role left listed cs ws outer s p.1 t es p.0 around fits (subst (λ (r : Read Item). Reads (FirstItem role s) r) is (first_reads role s)) h

sound : (text : List ℕ) (n : ℕ) (e : Css) → Sounds text n e
unfolding Sounds
sound text zero e = λ role left listed begun cs ws outer s t es around fits h. absurd (cc)
sound text (suc n) e = λ role left listed begun cs ws outer s t es around fits h.
    let st = at role left listed begun cs ws outer in
    let own = bind_ok (item_at st.open_ s) (λ item. go_on (λ st. run n st item.1) (freely item.0 st)) e h in
    item_sound text n e (sound text n e) role left listed begun cs ws outer s t es own.0 around fits own.1 own.2

pub run_is : (text : List ℕ) (n : ℕ) (e : Css) → run n start text ≡ Ok e → IsSelector text e
unfolding Sounds Around
run_is text n e h = sound text n e Top 0 false false [] [] [] text text [] (refl, refl, refl) (fresh (λ x k d. (x, list_first d, refl))) h
