-- What errors of what is called become.
use Rattle.tl_patch.specs.declared.error.PatchError.{PatchError}
use Rattle.tl_patch.specs.declared.error.PatchError.TheVariants as patch
use Rattle.tl_patch_edit.specs.declared.error.EditError.{EditError}
use Rattle.tl_patch_edit.specs.declared.error.EditError.TheVariants as edit
use Rattle.tl_patch_select.specs.declared.edit_error.SelectionEditError.{SelectionEditError}
use Rattle.tl_patch_select.specs.declared.edit_error.SelectionEditError.TheVariants as element
use Rattle.tl_patch_select.specs.declared.error.SelectionPatchError.{SelectionPatchError}
use Rattle.tl_patch_select.specs.declared.error.SelectionPatchError.TheVariants as tag

abbrev pub error_of_patch : PatchError → SelectionPatchError
error_of_patch (patch.NoStartTag place) = tag.NoStartTag place
error_of_patch (patch.NotWritten place) = tag.NotWritten place
error_of_patch patch.OutOfMemory = tag.OutOfMemory

abbrev pub error_of_edit : EditError → SelectionEditError
error_of_edit edit.OutOfMemory = element.OutOfMemory
error_of_edit error = element.Refused error
