use Rattle.std.proofs.Common.{arith, inl, refl}
use Rattle.tl_patch_select.proofs.Worked.{paragraph_inside, paragraph_own}
use Rattle.tl_patch_select.proofs.examples.paragraphs_in_svg.Goals as goal

pub returns-clause-svg : goal.returns-clause-svg
returns-clause-svg c = λ w. (let b = w.inside 4 5 (record { place = refl; before = omega arith }) (omega arith, omega arith) in omega (arith, b.1))

pub returns-clause-crossed : goal.returns-clause-crossed
returns-clause-crossed c = record {
  row = 4;
  comes = record { place = refl; before = omega arith };
  crosses = inl ((omega arith, omega arith), λ b. omega (arith, b.1));
}

pub returns-clause-paragraph : goal.returns-clause-paragraph
returns-clause-paragraph c = record { inside = paragraph_inside; own = paragraph_own }
