-- `line::put_attributes` meets its contract: one writer after another. Assumes nothing.
use lib.ListN.{get_or}
use Rattle.std.proofs.Common.{rules}
use Rattle.octets.specs.Numbers.{number_at}
use Rattle.octets.proofs.Writes.{both}
use Rattle.network.specs.Networks.{address_size}
use Rattle.network.specs.Text.{address_text}
use Rattle.aspath.specs.Wire.{width_bytes, segments_of}
use Rattle.communities.specs.Communities.{communities_of}
use Rattle.attributes.specs.Bodies.{aggregator_of}
use Rattle.attributes.proofs.Lookup.{asks_origin, asks_path, asks_next_hop, asks_atomic, asks_aggregator, asks_communities}
use Rattle.line.specs.Line.{origin_text, atomic_text, aggregator_text}
use Rattle.line.specs.Text.{following, path_text, communities_text}
use Rattle.line.proofs.Texts.{last_written}
use Rattle.line.proofs.Fields.{field_written}
use Rattle.line.proofs.put_attributes.Goals as goal

pub returns : goal.returns
unfolding following
returns c = let s = c.args.s.now in
    let w = width_bytes c.args.width in
    both _ _ (field_written (asks_path w) path_text s (c.put_field-place.ensures (λ body. path_text (segments_of w body)) (λ o p b n a h. search rules)))
    (both _ _ (field_written (asks_next_hop w) address_text s (c.put_field-place-2.ensures (λ body. address_text (number_at body 0 address_size)) (λ o p b n a h. search rules)))
    (both _ _ (field_written (asks_origin w) origin_text s (c.put_field-place-3.ensures (λ body. origin_text (get_or body 0 0)) (λ o p b n a h. search rules)))
    (both _ _ (field_written (asks_atomic w) (λ u. atomic_text u) s (c.put_field-place-4.ensures (λ body. atomic_text tt) (λ o p b n a h. search rules)))
    (both _ _ (field_written (asks_aggregator w) aggregator_text s (c.put_field-place-5.ensures (λ body. aggregator_text (aggregator_of w body)) (λ o p b n a h. search rules)))
    (last_written _ _ (field_written (asks_communities w) communities_text s (c.put_field.ensures (λ body. communities_text (communities_of body)) (λ o p b n a h. search rules))))))))
