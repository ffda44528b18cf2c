-- `unfolding opened` opens the whole definition, for a theorem by computation.
use Rattle.std.specs.Prelude.{ℕ}
use Rattle.std.specs.Float.Ieee.{add, lt, of_int, of_bits, mul, div}
use Rattle.definition.specs.Lists
use Rattle.definition.specs.Floats
use Rattle.definition.specs.Metric
use Rattle.definition.specs.Tables
use Rattle.definition.specs.Slack
use Rattle.definition.specs.Beam
use Rattle.definition.specs.Greedy
use Rattle.definition.specs.Prune
use Rattle.definition.specs.Batch
use Rattle.definition.specs.Build
use Rattle.definition.specs.Medoid
use Rattle.definition.specs.Search
use Rattle.definition.specs.Recall
use Rattle.definition.specs.Draws
use Rattle.definition.specs.Refusals
use Rattle.definition.specs.Outcome
use Rattle.definition.specs.Seek

unfoldable pub opened : ℕ
unfolding add lt of_int of_bits mul div
    Lists.each Lists.keep Lists.place Lists.sort Lists.joined Lists.run Lists.upto Lists.is_in Lists.distinct Lists.once_only Lists.rising
    Lists.total Lists.groups Lists.over Lists.cleared
    Floats.nought Floats.one Floats.one_point_two Floats.four Floats.largest Floats.larger Floats.smaller Floats.times Floats.divided Floats.above
    Metric.gap Metric.saturated Metric.squared Metric.summed Metric.metric Metric.vector Metric.from_query Metric.between Metric.whole
    Tables.pad Tables.row Tables.ids Tables.padded Tables.table_of Tables.only_pad Tables.ids_first Tables.build_row Tables.build_rule Tables.search_rule
    Tables.cleaned
    Slack.slack_factor Slack.ceil Slack.slack_by_floats Slack.slack
    Beam.nearer Beam.worse Beam.insert Beam.worst Beam.best Beam.without_best Beam.beats_worst Beam.insert_capped
    Greedy.visited_ids Greedy.begin Greedy.admitted Greedy.meet Greedy.skipped Greedy.look Greedy.expand Greedy.popped Greedy.step Greedy.filled
    Greedy.stops Greedy.steps Greedy.greedy
    Prune.measured Prune.unseen Prune.cut Prune.candidates Prune.target_of Prune.increment Prune.next_alpha Prune.quotient Prune.shade Prune.shade_all
    Prune.skip_one Prune.take_one Prune.round Prune.rounds Prune.most_rounds Prune.pruned_from Prune.prune
    Batch.prune_ids Batch.wide_row Batch.wide_ids Batch.collected Batch.pool Batch.fresh_of Batch.fresh_rows Batch.naming Batch.is_listed Batch.affected
    Batch.base Batch.merged_ids Batch.fitted Batch.merged_row Batch.merged Batch.batch
    Build.open' Build.closed_ids Build.close Build.batch_size Build.batches Build.built
    Medoid.score_from Medoid.score Medoid.challenge Medoid.leader Medoid.medoid
    Search.listed_first Search.ranked Search.searched Search.answers
    Recall.nearest Recall.in_both Recall.hits Recall.count_of
    Draws.advance Draws.drawn Draws.row_ids Draws.row_drawn Draws.rows_from Draws.rows_drawn Draws.first_free Draws.seeds_from Draws.seeds_drawn
    Draws.exchanged Draws.shuffled Draws.order_drawn Draws.draws_below Draws.pivots_drawn
    Refusals.◌when◌else◌ Refusals.bad_dim Refusals.bad_count Refusals.bad_vectors Refusals.bad_degree Refusals.bad_beam Refusals.bad_alpha
    Refusals.bad_start Refusals.bad_extra Refusals.good_group Refusals.bad_seeds Refusals.bad_length Refusals.bad_table Refusals.bad_searched
    Refusals.bad_nodes Refusals.bad_order Refusals.build_words Refusals.build_floats Refusals.search_words Refusals.search_floats Refusals.most_answers
    Refusals.short Refusals.bad_pivots Refusals.bad_k Refusals.bad_queries Refusals.report_words Refusals.report_floats
    Refusals.distance_number Refusals.batch_number Refusals.open_number Refusals.close_number Refusals.build_number
    Refusals.medoid_number Refusals.search_short Refusals.search_number_at Refusals.search_number Refusals.records_number Refusals.fit_number Refusals.exhaustive_number
    Refusals.report_number
    Refusals.rows_number Refusals.seeds_number Refusals.order_number Refusals.pivots_number
    Outcome.answer Outcome.search_answer Outcome.refused Outcome.done Outcome.by_number Outcome.distance_out Outcome.setting_of Outcome.batch_kept Outcome.batch_done
    Outcome.batch_out Outcome.open_kept Outcome.open_done Outcome.open_out Outcome.close_kept Outcome.close_done Outcome.close_out Outcome.build_kept
    Outcome.built_wide Outcome.build_done Outcome.build_out Outcome.medoid_out Outcome.found Outcome.walked Outcome.found_ids Outcome.found_dists Outcome.search_kept
    Outcome.search_done Outcome.search_out Outcome.found_records Outcome.records_kept Outcome.records_done Outcome.records_out Outcome.cleaned_call
    Outcome.lookup_out Outcome.fit_out Outcome.nearest_to Outcome.exhaustive_kept Outcome.exhaustive_done Outcome.exhaustive_out Outcome.reported
    Outcome.query_count Outcome.asked_each Outcome.hits_at Outcome.all_hits Outcome.report_kept Outcome.report_done Outcome.report_out
    Outcome.draw_out Outcome.fill_kept Outcome.fill_done Outcome.rows_out Outcome.seeds_out Outcome.order_out Outcome.pivots_out
    Seek.splits Seek.ended Seek.words_from Seek.is_digit Seek.is_decimal Seek.decimal_from Seek.junk Seek.is_dash Seek.value Seek.values Seek.is_number
    Seek.is_sample Seek.is_row_word Seek.part_at Seek.the_n Seek.the_dim Seek.the_degree Seek.the_vectors Seek.the_rows Seek.the_query Seek.small_enough
    Seek.shaped Seek.filled Seek.well_formed Seek.seek_call Seek.most_input Seek.malformed Seek.seek_number Seek.digits Seek.decimal Seek.print_refused
    Seek.print_item Seek.print_found Seek.seek
opened = 0
