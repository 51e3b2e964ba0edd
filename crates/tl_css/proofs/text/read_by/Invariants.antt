use Rattle.std.proofs.Common.{◌≡◌, ◌+◌, Err, false}
use Rattle.tl_css.specs.declared.error.Wrong.{Wrong}
use Rattle.tl_css.specs.declared.text.role.Role.TheVariants.{Top}
use Rattle.tl_css.specs.Item.{begin_at}
use Rattle.tl_css.specs.Reading.{opened, within_by}
use Rattle.tl_css.specs.Relative.{item_by, read_by}
use Rattle.tl_css.specs.StateView.{open_list, state}
use Rattle.tl_css.proofs.text.read_by.Given as goal

abbrev pub invariant-items : goal.invariant-items
invariant-items l = record {
  reads : within_by (item_by l.relative) (l.items + 1) (state l.state) l.left ≡ read_by l.relative l.text;
  first : (wrong : Wrong) → l.relative ≡ false → begin_at Top l.text ≡ Err wrong → (l.left ≡ l.text) × (open_list l.state.open ≡ opened Top 0);
}

abbrev pub decreases-items : goal.decreases-items
decreases-items l = l.items
