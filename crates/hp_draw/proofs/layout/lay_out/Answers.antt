use Rattle.std.proofs.Common.{◌∙◌, ◌≡◌, List, rules, subst}
use Rattle.std.specs.Prelude.{is_some, map}
use Rattle.hp_draw.specs.Places.{IsLower, IsUpper}
use Rattle.hp_draw.specs.declared.following.Mark.{Mark}
use Rattle.hp_draw.specs.declared.following.Numbers.{Numbers}
use Rattle.hp_draw.specs.declared.following.Stay.{Stay}
use Rattle.hp_draw.specs.declared.waits.Wait.{Wait}
use Rattle.hp_draw.proofs.Others.{upper_or_quota}
use Rattle.hp_draw.proofs.Placing.{have_lanes, was_found}
use Rattle.hp_draw.proofs.layout.lay_out.Goals as goal

pub returns : goal.returns
returns c =
    let tops = c.in_ok-tops.tops.items in
    let found = c.in_ok-seen.seen.items in
    let each : map is_some tops ≡ found = c.in_ok-tops.ensures.each ∙ c.as_slice.ensures.value in
    record {
      wide = search rules;
      step = search rules;
      tall = search rules;
      stays = have_lanes (λ (s : Stay). s.column) c.args.sketch.now.stays.items tops found each c.in_ok-seen.ensures.stays;
      marks = have_lanes (λ (m : Mark). m.column) c.args.sketch.now.marks.items tops found each c.in_ok-seen.ensures.marks;
      waits = have_lanes (λ (w : Wait). w.column) c.args.sketch.now.waits.ended.items tops found each c.in_ok-seen.ensures.waits;
      others = λ column there. c.in_ok-seen.ensures.others column (was_found tops found column each there);
      lanes = search rules;
      counts = search rules;
      quota_fits = search rules;
      upper =
          upper_or_quota c.args.quota c.args.sketch.now.numbers.items c.most_of-most_free.result.0 c.with_quota.result
          (subst (λ (list : List Numbers). IsUpper list c.most_of-most_free.result.0) c.as_slice-2.ensures.value
          c.most_of-most_free.ensures.upper) c.with_quota.ensures.least;
      lower =
          subst (λ (list : List Numbers). IsLower list c.most_of-most_free.result.1) c.as_slice-2.ensures.value
          c.most_of-most_free.ensures.lower;
    }
