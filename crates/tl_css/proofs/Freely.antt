-- The reader without a limit of depth, and how far it comes.
use Rattle.std.proofs.Common.{◌≡◌, ℕ, zero, suc, List, Bool, Result, Ok, Err, ap, ◌∙◌}
use Rattle.tl_css.specs.declared.error.Wrong.{Wrong}
use Rattle.tl_css.specs.declared.error.Cause.TheVariants.{Unexpected}
use Rattle.tl_css.specs.declared.text.role.Role.{Role}
use Rattle.tl_css.specs.declared.text.role.Combinator.{Combinator}
use Rattle.tl_css.specs.Selector.{Css}
use Rattle.tl_css.specs.Read.{wrong, ◌>>=◌}
use Rattle.tl_css.specs.PseudoClass.{Whole}
use Rattle.tl_css.specs.Item.{Item, End, Comma, Part}
use Rattle.tl_css.specs.Reading.{State, Open, Taken, Goes, Done, with_simple, with_before, finish, close, go_on, item_at}

abbrev pub freely : Item → State → Taken
freely End st = close (finish st) st.outer
freely Comma st = Goes (finish st)
freely (Part before left simple) st = Goes (with_simple simple (with_before before st))

abbrev pub run : ℕ → State → List ℕ → Result Css Wrong
run zero st s = wrong s Unexpected
run (suc n) st s = item_at st.open_ s >>= λ item. go_on (λ st. run n st item.1) (freely item.0 st)

-- the reader comes to this selector, from a state and what is left
pub record Reaches (st : State) (s : List ℕ) (e : Css) : Type 0 where
  pub steps : ℕ
  pub ends : run steps st s ≡ Ok e

step : (n : ℕ) (st : State) (s : List ℕ) (item : Item) (rest : List ℕ) → item_at st.open_ s ≡ Ok (item, rest)
    → run (suc n) st s ≡ go_on (λ st. run n st rest) (freely item st)
step n st s item rest is =
    ap (λ (r : Result (Item × List ℕ) Wrong). r >>= λ item. go_on (λ st. run n st item.1) (freely item.0 st)) is

pub goes : (st : State) (s : List ℕ) (item : Item) (rest : List ℕ) (next : State) (e : Css) → item_at st.open_ s ≡ Ok (item, rest)
    → freely item st ≡ Goes next → Reaches next rest e → Reaches st s e
goes st s item rest next e is to more = record {
  steps = suc more.steps;
  ends = step more.steps st s item rest is ∙ (ap (λ (t : Taken). go_on (λ st. run more.steps st rest) t) to ∙ more.ends);
}

pub done : (st : State) (s : List ℕ) (item : Item) (rest : List ℕ) (e : Css) → item_at st.open_ s ≡ Ok (item, rest)
    → freely item st ≡ Done e → Reaches st s e
done st s item rest e is to = record {
  steps = 1;
  ends = step 0 st s item rest is ∙ ap (λ (t : Taken). go_on (λ st. run 0 st rest) t) to;
}

-- It comes to one.

unique-taken : (n m : ℕ) (rest : List ℕ) (a b : Css) (t : Taken)
    → ((st : State) → run n st rest ≡ Ok a → run m st rest ≡ Ok b → a ≡ b)
    → go_on (λ st. run n st rest) t ≡ Ok a → go_on (λ st. run m st rest) t ≡ Ok b → a ≡ b
unique-taken n m rest a b (Goes st) more p q = more st p q
unique-taken n m rest a b (Done e) more p q = cc

unique-item : (n m : ℕ) (st : State) (a b : Css) (r : Result (Item × List ℕ) Wrong)
    → ((next : State) (rest : List ℕ) → run n next rest ≡ Ok a → run m next rest ≡ Ok b → a ≡ b)
    → (r >>= λ item. go_on (λ st. run n st item.1) (freely item.0 st)) ≡ Ok a
    → (r >>= λ item. go_on (λ st. run m st item.1) (freely item.0 st)) ≡ Ok b → a ≡ b
unique-item n m st a b (Ok item) more p q = unique-taken n m item.1 a b (freely item.0 st) (λ next. more next item.1) p q
unique-item n m st a b (Err w) more p q = absurd (cc)

pub run_once : (n m : ℕ) (st : State) (s : List ℕ) (a b : Css) → run n st s ≡ Ok a → run m st s ≡ Ok b → a ≡ b
run_once zero m st s a b p q = absurd (cc)
run_once (suc n) zero st s a b p q = absurd (cc)
run_once (suc n) (suc m) st s a b p q = unique-item n m st a b (item_at st.open_ s) (λ next rest. run_once n m next rest a b) p q

-- States, by their parts
abbrev pub at : Role → ℕ → Bool → Bool → List Combinator → List Css → List Open → State
at role left listed begun combinators waiting outer = record {
  waiting = waiting;
  open_ = record { role = role; left = left; listed = listed; begun = begun; combinators = combinators };
  outer = outer;
}

-- a simple selector is put into what has been read
abbrev pub put : Css → State → State
put e st = with_simple (Whole e) st
