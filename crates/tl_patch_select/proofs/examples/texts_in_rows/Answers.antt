use Rattle.std.proofs.Common.{arith, inl, refl}
use Rattle.tl_patch_select.proofs.examples.texts_in_rows.Goals as goal

pub returns-clause-row : goal.returns-clause-row
returns-clause-row c = λ w. (let b = w.inside 3 11 (record { place = refl; before = omega arith }) (omega arith, omega arith) in omega (arith, b.0))

pub returns-clause-crossed : goal.returns-clause-crossed
returns-clause-crossed c = record {
  row = 3;
  comes = record { place = refl; before = omega arith };
  crosses = inl ((omega arith, omega arith), λ b. omega (arith, b.0));
}
