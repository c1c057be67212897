-- What crates above may cite of these proofs.
pub use Rattle.vs_rows.proofs.rows.SplitLayers.{some_member}
pub use Rattle.vs_rows.proofs.rows.SaysOnce.{first_word, none_is_no_number, says_once, word_of}
pub use Rattle.vs_rows.proofs.refused.RefusedOnce.{AreClear, LeadsTo, leads_on, not_refused, once_from}
pub use Rattle.vs_rows.proofs.refused.RefusedRows.{bad_row, lead_on, leads_one, out_of_order, read_on, reads_none}
pub use Rattle.vs_rows.proofs.refused.RefusedRows.{reads_one, refused_after_end, refused_at, refused_at_the_end}
pub use Rattle.vs_rows.proofs.refused.RefusedRows.{say_on, says_one, wrong_row}
pub use Rattle.vs_rows.proofs.refused.SamePlaces.{AreSameFor, same_place}
pub use Rattle.vs_rows.proofs.refused.WrongPrices.{wrong_prices}
pub use Rattle.vs_rows.proofs.tables.ErrorsPass.{err_passes, err_weaker, ok_weaker}
pub use Rattle.vs_rows.proofs.tables.PriceRows.{as_word}
pub use Rattle.vs_rows.proofs.tables.Standing.{stand_on, stand_within, wrong_within}
pub use Rattle.vs_rows.proofs.written.PriceRanges.{checked_cost, cost_bound, price_anywhere, prices_in_all, printed}
pub use Rattle.vs_rows.proofs.written.WrittenForms.{block_form, members_are, shape_form, stands}
pub use Rattle.vs_rows.proofs.written.WrittenParts.{written-flat_map, written_in_turn}
pub use Rattle.vs_rows.proofs.written.WrittenPlain.{plain_document}
pub use Rattle.vs_rows.proofs.written.WrittenRows.{ended_row, flat_map-filter, join-cons, lines-flat_map, lines-map}
pub use Rattle.vs_rows.proofs.written.WrittenRows.{more_fields-map, more_rows, numbered_all, numbered_more}
pub use Rattle.vs_rows.proofs.written.WrittenRows.{one_more_field, some_more_fields, wrote_all, wrote_field}
pub use Rattle.vs_rows.proofs.written.WrittenRows.{wrote_last, wrote_more}
pub use Rattle.vs_rows.proofs.Lists.{All-both, all_at, all_below, every}
pub use Rattle.vs_rows.proofs.written.PlainFields.{IsPlainField, are_high, cond_parts, plain_from, plain_word}
pub use Rattle.vs_rows.proofs.written.PlainFields.{plain_decimal}
pub use Rattle.vs_rows.proofs.written.PlainFields.{one_field, plain_amount, plain_name_of, plain_row, two_fields}
pub use Rattle.vs_rows.proofs.written.PlainFields.{plain_cost, plain_kind, plain_price}
pub use Rattle.vs_rows.proofs.TreeRows.{tree_once}
