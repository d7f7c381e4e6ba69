use Rattle.std.proofs.Common.{ap}
use Rattle.std.specs.Option.{option_map}
use Rattle.ordered.proofs.Orders.{total_from, ne_from}
use Rattle.ordered.proofs.Between.{ascends}
use Rattle.ordered.proofs.Ascends.{ascending_none, ascending_put, ascending_without}
use Rattle.ordered.proofs.Insertions.{insertion_there, insertion_full, insertion_fits}
use Rattle.ordered.proofs.Lookups.{node_none, node_put_same, node_put_other, node_without_same, node_without_other, node_key, length_put, length_without, without_none}
use Rattle.ordered.proofs.Ends.{first_none, last_none, first_there, last_there, first_least, last_greatest}
use Rattle.ordered.proofs.Values.{value_same, value_other, value_none, ascending_value, length_value, first_value}
use Rattle.ordered.proofs.laws.laws_hold.Goals as goal

pub returns : goal.returns
returns g c =
    let order = g.K.Ord.cmp in
    let total = total_from g.met.K.Ord.total g.met.K.Key.same in
    record {
      total_order = total;
      looks_up = record {
        empty = λ key. ap (option_map (λ n. n.value)) (node_none order key);
        put_same = λ ns n. ap (option_map (λ n. n.value)) (node_put_same order total n ns);
        put_other = λ ns n other ne. ap (option_map (λ n. n.value)) (node_put_other order n ns other (ne_from order total n.key other ne));
        without_same = λ ns key up. ap (option_map (λ n. n.value)) (node_without_same order total ns key up);
        without_other = λ ns key other ne. ap (option_map (λ n. n.value)) (node_without_other order total ns key other (ne_from order total key other ne));
        with_key = node_key order total;
      };
      keeps_order = record {
        ascends = λ ns i j d up. ascends order ns up i j d;
        empty = ascending_none g.row.V.Denot order;
        put_in = λ ns n. ascending_put order total n ns;
        taken_out = λ ns key. ascending_without order ns key;
      };
      counts = record {
        put_in = λ ns n. length_put order n ns;
        taken_out = length_without order;
        not_there = without_none order;
      };
      writes = record {
        same = value_same order;
        other = λ ns key other w ne. value_other order total ns key other w (ne_from order total key other ne);
        not_there = value_none order;
        ascends = ascending_value order;
        count = length_value order;
        first_is = first_value order total;
      };
      insertions = record {
        there = insertion_there order;
        full = insertion_full order;
        fits = insertion_fits order;
      };
      ends = record {
        none = first_none;
        none_last = last_none;
        first_there = first_there order total;
        last_there = last_there order total;
        least = first_least order total;
        greatest = last_greatest order total;
      };
    }
