use Rattle.std.proofs.Common.{refl}
use Rattle.cdp_json.proofs.Options.{both}
use Rattle.cdp_json.proofs.TakenTokens.{object_taken, field_taken, none_taken}
use Rattle.css_objects.specs.Ranges.{range_row}
use Rattle.css_objects.proofs.scan.scan_range.Goals as goal

pub returns-clause-read : goal.returns-clause-read
returns-clause-read c =
    object_taken
    (range_row.writes (
      c.in_ok-end_column.end_column,
      (
        c.in_ok-end_line.end_line,
        (c.in_ok-start_column.start_column, (c.in_ok-start_line.start_line, tt)),
      ),
    ))
    c.in_ok-take_begin_object.ensures
    (field_taken c.in_ok-end_column.ensures.read
    (field_taken c.in_ok-end_line.ensures.read
    (field_taken c.in_ok-start_column.ensures.read
    (field_taken c.in_ok-start_line.ensures.read
    (none_taken c.in_ok-take_end_object.ensures)))))

pub returns-clause-fits : goal.returns-clause-fits
returns-clause-fits c =
    both c.in_ok-end_column.ensures.fits (both c.in_ok-end_line.ensures.fits
    (both c.in_ok-start_column.ensures.fits (both c.in_ok-start_line.ensures.fits refl)))
