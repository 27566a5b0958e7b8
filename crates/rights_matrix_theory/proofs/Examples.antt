-- The claims about literals hold, each by computation. Assumes nothing.
use mathlib.Core.Path.{refl}
use Rattle.machine.specs.Below.{words_below}
use Rattle.rights_matrix_theory.specs.Rows.{held_in, with_held, rows_below, row_of, rows_of, is_rights, stored_rows}
use Rattle.rights_matrix_theory.specs.Examples.{RowLoaded, RowStored}

pub taken_in : RowLoaded
unfolding held_in rows_of rows_below row_of words_below
taken_in = (refl, refl, refl, refl, refl, refl)

pub put-out : RowStored
unfolding held_in with_held rows_of rows_below row_of words_below is_rights stored_rows
put-out = refl
