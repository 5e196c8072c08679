use Rattle.css_objects.proofs.Objects.{sheet_sound, range_sound, header_sound, selector_sound, selectors_sound, property_sound}
use Rattle.css_objects.proofs.Objects.{inline_sound, rule_style_sound, rule_sound, match_sound, inherited_sound, matched_sound}
use Rattle.css_objects.proofs.Objects.{sheet_text_sound, class_names_sound, styles_sound, new_selectors_sound, new_rule_sound}
use Rattle.css_objects.proofs.Objects.{media_sound, new_media_sound}
use Rattle.css_objects.proofs.laws.css_objects_law.Goals as goal

pub returns : goal.returns
returns c = record {
  sheet = sheet_sound;
  range = range_sound;
  header = header_sound;
  selector = selector_sound;
  selectors = selectors_sound;
  property = property_sound;
  inline = inline_sound;
  rule_style = rule_style_sound;
  media = media_sound;
  rule = rule_sound;
  rule_match = match_sound;
  inherited = inherited_sound;
  matched = matched_sound;
  sheet_text = sheet_text_sound;
  class_names = class_names_sound;
  styles = styles_sound;
  new_selectors = new_selectors_sound;
  new_rule = new_rule_sound;
  new_media = new_media_sound;
}
