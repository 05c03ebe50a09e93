mod Events
mod Reporting
mod Taking
