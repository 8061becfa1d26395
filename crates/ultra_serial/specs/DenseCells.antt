-- the cells of a memory that has a table for the lowest addresses
use Rattle.std.specs.Prelude.{ℕ, List, length, nat_lt, slice_index, if◌then◌else◌}
use Rattle.ultra_serial_law.specs.Legal.{Cells}
use Rattle.ultra_serial.specs.{declared.dense_memory.DenseMemory.DenseMemory, Memory.cell_in}

-- the values of a table, and the cells beyond it
abbrev pub cells_over : List ℕ → Cells → Cells
cells_over low high = λ a. if nat_lt a (length low) then slice_index low a else high a

abbrev pub dense_cells : DenseMemory → Cells
dense_cells m = cells_over m.low.items (cell_in m.high)
