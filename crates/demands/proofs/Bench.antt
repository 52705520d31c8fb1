-- The twelve bench examples hold, by computing what each line's calls come to.
use mathlib.Core.List.{flat_map}
use mathlib.Core.Path.{refl}
use Rattle.interval.specs.Interval.{proper_of, meeting_of}
use Rattle.lists.specs.Sort.{ascending, neither}
use Rattle.lists.specs.Store.{pad_to}
use Rattle.pairing.specs.Pair.{pairs, partner_of, pair_of, comes_before}
use Rattle.pairing.specs.Plain.{couple_that, couples_that}
use Rattle.pairing.specs.Rule.{difference, distance, allows, fits}
use Rattle.pairing.specs.Numbers.{pair_numbers}
use Rattle.journal.specs.Journal.{own_rows}
use Rattle.area.specs.Area.{entry_numbers, sound_area}
use Rattle.queue.specs.Queue.{sound_queue, ready}
use Rattle.halves.specs.Calls.{key_rows, room_for, entry_rows, after_entry, after_move}
use Rattle.join.specs.State.{view, state_of, sound, fresh_state}
use Rattle.join.specs.Calls.{entry_call, mark_call, close_call, take_call, without}
use Rattle.demands.specs.Bench.{table, Benches}

pub benches : Benches
unfolding flat_map proper_of meeting_of ascending neither pad_to pairs partner_of pair_of comes_before couple_that couples_that difference distance allows fits entry_numbers sound_area pair_numbers sound_queue ready view state_of sound fresh_state own_rows key_rows room_for entry_rows after_entry entry_call after_move mark_call close_call take_call without table
benches = refl
